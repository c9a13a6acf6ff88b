-- Reading values one after the other, as a loop does.
use Rattle.std.proofs.Common.{◌≡◌, ℕ, suc, ◌-◌, ◌+◌, ◌≤◌, ◌<◌, List, [], ◌∷◌, ◌++◌, Ok, Err}
use Rattle.std.proofs.Common.{refl, sym, ap, ◌∙◌, append_assoc, arith}
use Rattle.std.proofs.Math.Nat.{sub-zero}
use Rattle.std.proofs.lemmas.List.{append-nil}
use Rattle.byte_formats.specs.declared.error.FieldError.{FieldError}
use Rattle.byte_formats.specs.declared.error.DecodeError.{DecodeError}
use Rattle.byte_formats.specs.declared.error.DecodeError.TheVariants as decode
use Rattle.byte_formats.specs.Answers.{Fails}
use Rattle.byte_formats.specs.Format.{◌>>=◌, Format, Read, cons, many}

-- what is read behind some values, with them in front
abbrev pub with_front : {X : Type 0} → List X → Read (List X) → Read (List X)
with_front front read = read >>= λ x. Ok (front ++ x.0, x.1)

pub begins : {X : Type 0} (r : Read (List X)) → with_front [] r ≡ r
begins (Ok x) = refl
begins (Err error) = refl

abbrev paired : {Y X : Type 0} → Y → X × List ℕ → Read (Y × X)
paired y x = Ok ((y, x.0), x.1)

abbrev in_list : {X : Type 0} → (X × List X) × List ℕ → Read (List X)
in_list p = Ok (cons p.0, p.1)

shift : {X : Type 0} (front : List X) (x : X) (r : Read (List X))
    → with_front front ((r >>= paired x) >>= in_list) ≡ with_front (front ++ x ∷ []) r
shift {X = X} front x (Ok y) = ap (λ (zs : List X). Ok (zs, y.1)) (sym (append_assoc front (x ∷ []) y.0))
shift front x (Err error) = refl

module _ {S X : Type 0} (item : S → Format X) (next : S → X → S) where
  pub one_more : (front : List X) (s : S) (n : ℕ) (bytes : List ℕ) (x : X) (rest : List ℕ)
      → (item s).read bytes ≡ Ok (x, rest)
      → with_front front ((many item next s (suc n)).read bytes) ≡ with_front (front ++ x ∷ [])
      ((many item next (next s x) n).read rest)
  unfolding many
  one_more front s n bytes x rest e = rw e (shift front x ((many item next (next s x) n).read rest))

  pub no_more : (front : List X) (s : S) (n : ℕ) (bytes : List ℕ) (error : FieldError) → (item s).read bytes ≡ Err error
      → with_front front ((many item next s (suc n)).read bytes) ≡ Err error
  unfolding many
  no_more front s n bytes error e = rw e refl

  pub none_left : (front : List X) (s : S) (bytes : List ℕ)
      → with_front front ((many item next s 0).read bytes) ≡ Ok (front, bytes)
  unfolding many
  none_left front s bytes = ap (λ (zs : List X). Ok (zs, bytes)) (append-nil front)

  -- what a loop reads that has read some
  abbrev pub reads : List X → S → ℕ → List ℕ → Read (List X)
  reads front s n bytes = with_front front ((many item next s n).read bytes)

  pub at_start : (s : S) (count : ℕ) (bytes : List ℕ) (list : List X) → list ≡ []
      → reads list s (count - 0) bytes ≡ (many item next s count).read bytes
  at_start s count bytes list e =
      ap (λ (front : List X). reads front s (count - 0) bytes) e
      ∙ ap (λ (n : ℕ). reads [] s n bytes) (sub-zero count) ∙ begins ((many item next s count).read bytes)

  pub goes_on : (front : List X) (s : S) (count i : ℕ) (bytes : List ℕ) (x : X) (rest : List ℕ) (total : Read (List X))
      → i < count → (item s).read bytes ≡ Ok (x, rest) → reads front s (count - i) bytes ≡ total
      → reads (front ++ x ∷ []) (next s x) (count - (i + 1)) rest ≡ total
  goes_on front s count i bytes x rest total lt h so_far =
      let k : count - i ≡ suc (count - (i + 1)) = omega arith in
      sym (one_more front s (count - (i + 1)) bytes x rest h) ∙ ap (λ (n : ℕ). reads front s n bytes) (sym k) ∙ so_far

  pub fails : (why : DecodeError) (front : List X) (s : S) (count i : ℕ) (bytes : List ℕ) (total : Read (List X))
      → i < count → Fails why ((item s).read bytes) → reads front s (count - i) bytes ≡ total → Fails why total
  fails decode.Memory front s count i bytes total lt h so_far = tt
  fails (decode.Bad error) front s count i bytes total lt h so_far =
      let k : count - i ≡ suc (count - (i + 1)) = omega arith in
      sym so_far ∙ ap (λ (n : ℕ). reads front s n bytes) k ∙ no_more front s (count - (i + 1)) bytes error h

  pub ends : (front : List X) (s : S) (count i : ℕ) (bytes : List ℕ) (total : Read (List X))
      → count ≤ i → reads front s (count - i) bytes ≡ total → total ≡ Ok (front, bytes)
  ends front s count i bytes total le so_far =
      let k : count - i ≡ 0 = omega arith in
      sym so_far ∙ ap (λ (n : ℕ). reads front s n bytes) k ∙ none_left front s bytes

-- A value that takes all of some bytes: what is so of every lawful format.
use Rattle.std.proofs.Common.{◌≡◌, ℕ, ◌+◌, ◌-◌, ◌<◌, ◌≤◌, List, [], ◌∷◌, ◌++◌, length, take, Result, Ok, Err}
use Rattle.std.proofs.Common.{◌⊎◌, inl, inr, refl, sym, ap, subst, ◌∙◌, arith}
use Rattle.std.proofs.lemmas.List.{append-nil, length-append, take_all, take_at}
use Rattle.byte_formats.specs.declared.error.FieldError.{FieldError}
use Rattle.byte_formats.specs.declared.error.FieldError.TheVariants.{Truncated, Invalid}
use Rattle.byte_formats.specs.Format.{Format, Read, left_of}
use Rattle.byte_formats.specs.Lawful.{IsBytes, IsEdge, Lawful}
use Rattle.byte_formats.specs.Whole.{DecodesWell, IsValidTo, Spells, at_place, decoded, ended, place_of, whole}
use Rattle.byte_formats.proofs.Steps.{bind_err, bind_ok, failed, invalid_is, ok_is, reads_on}

pub placed_ok : {X : Type 0} (place : FieldError → ℕ) (r : Result X FieldError) (x : X) → at_place place r ≡ Ok x
    → r ≡ Ok x
placed_ok place (Ok y) x e = cc
placed_ok place (Err error) x e = absurd cc

pub placed_err : {X : Type 0} (place : FieldError → ℕ) (r : Result X FieldError) (p : ℕ) → at_place place r ≡ Err p
    → (error : FieldError) × (r ≡ Err error) × (place error ≡ p)
placed_err place (Ok y) p e = absurd cc
placed_err place (Err error) p e = (error, refl, cc)

ended_ok : {X : Type 0} (y : X) (ys : List ℕ) (x : X) → ended (y, ys) ≡ Ok x → (ys ≡ []) × (y ≡ x)
ended_ok y [] x e = (refl, cc)
ended_ok y (b ∷ bs) x e = absurd cc

pub ended_err : {X : Type 0} (y : X) (ys : List ℕ) (error : FieldError) → ended (y, ys) ≡ Err error
    → (error ≡ Invalid (length ys)) × (0 < length ys)
ended_err y [] error e = absurd cc
ended_err y (b ∷ bs) error e = (cc, omega arith)

pub ended_some : {X : Type 0} (y : X) (ys : List ℕ) → 0 < length ys → ended (y, ys) ≡ Err (Invalid (length ys))
ended_some y [] h = absurd (omega (arith, h))
ended_some y (b ∷ bs) h = refl

place_within : (len : ℕ) (error : FieldError) → place_of len error ≤ len
place_within len (Truncated left) = omega arith
place_within len (Invalid left) = omega arith

place_last : (len : ℕ) (error : FieldError) → left_of error ≡ 0 → place_of len error ≡ len
place_last len (Truncated left) e = refl
place_last len (Invalid left) e = omega arith

pub err_place : {X : Type 0} (p q : ℕ) → p ≡ q → (let r : Result X ℕ = Err p in r) ≡ Err q
err_place p q e = cc

invalid_err : {X : Type 0} (a b : ℕ) → a ≡ b → failed {X = X} (Invalid a) ≡ failed (Invalid b)
invalid_err a b e = cc

module _ {X : Type 0} (f : Format X) (F : Lawful f) where
  well_found : (bytes : List ℕ) (x : X) → IsBytes bytes → decoded f bytes ≡ Ok x → Spells f bytes x
  unfolding decoded
  well_found bytes x fits e =
      let a = bind_ok (f.read bytes) ended x (placed_ok (place_of (length bytes)) (whole f bytes) x e) in
      let b = ended_ok a.0.0 a.0.1 x a.2 in
      let g = F.found bytes a.0.0 a.0.1 fits a.1 in
      let is : bytes ≡ f.spell a.0.0 = g.0 ∙ ap (λ (t : List ℕ). f.spell a.0.0 ++ t) b.0 ∙ append-nil (f.spell a.0.0) in
      subst (Spells f bytes) b.1 (record { fits = g.1; is = is })

  pub spelled_read : (bytes rest : List ℕ) (x : X) → Spells f bytes x → f.read (bytes ++ rest) ≡ Ok (x, rest)
  spelled_read bytes rest x s = ap (λ (t : List ℕ). f.read (t ++ rest)) s.is ∙ F.again x rest s.fits

  pub spelled_alone : (bytes : List ℕ) (x : X) → Spells f bytes x → f.read bytes ≡ Ok (x, [])
  spelled_alone bytes x s = ap f.read (sym (append-nil bytes)) ∙ spelled_read bytes [] x s

  well_again : (bytes : List ℕ) (x : X) → Spells f bytes x → decoded f bytes ≡ Ok x
  unfolding decoded
  well_again bytes x s = rw (spelled_alone bytes x s) refl

  well_within : (bytes : List ℕ) (place : ℕ) → decoded f bytes ≡ Err place → place ≤ length bytes
  unfolding decoded
  well_within bytes place e =
      let a = placed_err (place_of (length bytes)) (whole f bytes) place e in
      omega (arith, a.2, place_within (length bytes) a.0)

  well_truncated : (bytes more : List ℕ) (x : X) → IsBytes bytes → Spells f (bytes ++ more) x → 0 < length more
      → decoded f bytes ≡ Err (length bytes)
  unfolding decoded
  well_truncated bytes more x fits s some = go (f.read bytes) refl
    where
      go : (r : Read X) → f.read bytes ≡ r → at_place (place_of (length bytes)) (whole f bytes) ≡ Err (length bytes)
      go (Ok y) read =
          let on : f.read (bytes ++ more) ≡ Ok (y.0, y.1 ++ more) = reads_on f F bytes y.0 y.1 more fits read in
          let same : y.1 ++ more ≡ [] = ap (λ (z : X × List ℕ). z.1)
          (ok_is (y.0, y.1 ++ more) (x, []) (sym on ∙ spelled_alone (bytes ++ more) x s)) in
          let none : length (y.1 ++ more) ≡ 0 = ap length same in
          absurd (omega (arith, none, some, length-append y.1 more))
      go (Err (Invalid k)) read = absurd (cc (F.stays bytes more k fits read, spelled_alone (bytes ++ more) x s))
      go (Err (Truncated k)) read = rw read refl

  well_too_many : (bytes more : List ℕ) (x : X) → Spells f bytes x → 0 < length more
      → decoded f (bytes ++ more) ≡ Err (length bytes)
  unfolding decoded
  well_too_many bytes more x s some =
      let size : length (bytes ++ more) - length more ≡ length bytes = omega (arith, length-append bytes more) in
      rw (spelled_read bytes more x s, ended_some x more some) (err_place _ _ size)

  -- an invalid field stays where it is, and so does a byte too many
  pub whole_stays : (bytes more : List ℕ) (k : ℕ) → IsBytes bytes → whole f bytes ≡ Err (Invalid k)
      → whole f (bytes ++ more) ≡ Err (Invalid (k + length more))
  whole_stays bytes more k fits e = go (bind_err (f.read bytes) ended (Invalid k) e)
    where
      go : (f.read bytes ≡ Err (Invalid k)) ⊎ ((x : X × List ℕ) × (f.read bytes ≡ Ok x) × (ended x ≡ Err (Invalid k)))
          → whole f (bytes ++ more) ≡ Err (Invalid (k + length more))
      go (inl h) = rw (F.stays bytes more k fits h) refl
      go (inr h) =
          let b = ended_err h.0.0 h.0.1 (Invalid k) h.2 in
          let left : k ≡ length h.0.1 = invalid_is k (length h.0.1) b.0 in
          let size : length (h.0.1 ++ more) ≡ k + length more = omega (arith, left, length-append h.0.1 more) in
          let some : 0 < length (h.0.1 ++ more) = omega (arith, b.1, length-append h.0.1 more) in
          rw (reads_on f F bytes h.0.0 h.0.1 more fits h.1, ended_some h.0.0 (h.0.1 ++ more) some)
          (invalid_err (length (h.0.1 ++ more)) (k + length more) size)

  well_stays : (bytes more : List ℕ) (place : ℕ) → IsBytes bytes → decoded f bytes ≡ Err place → place < length bytes
      → decoded f (bytes ++ more) ≡ Err place
  unfolding decoded
  well_stays bytes more place fits e less =
      let a = placed_err (place_of (length bytes)) (whole f bytes) place e in
      go a.0 a.1 a.2
    where
      go : (error : FieldError) → whole f bytes ≡ Err error → place_of (length bytes) error ≡ place
          → at_place (place_of (length (bytes ++ more))) (whole f (bytes ++ more)) ≡ Err place
      go (Truncated k) is at = absurd (omega (arith, at, less))
      go (Invalid k) is at =
          let same : length (bytes ++ more) - (k + length more) ≡ place = omega (arith, at, length-append bytes more) in
          ap (at_place (place_of (length (bytes ++ more)))) (whole_stays bytes more k fits is) ∙ err_place _ _ same

  edge_valid : (bytes : List ℕ) (place : ℕ) → length bytes ≡ place → IsEdge (f.read bytes)
      → IsValidTo place (at_place (place_of (length bytes)) (whole f bytes))
  edge_valid bytes place size e = rw e.is (place_last (length bytes) e.error e.last ∙ size)

  well_before : (bytes : List ℕ) (place : ℕ) → IsBytes bytes → decoded f bytes ≡ Err place
      → IsValidTo place (decoded f (take place bytes))
  unfolding decoded
  well_before bytes place fits e =
      let a = placed_err (place_of (length bytes)) (whole f bytes) place e in
      go a.0 a.2 (bind_err (f.read bytes) ended a.0 a.1)
    where
      Fine : List ℕ → Type 0
      Fine bs = IsValidTo place (at_place (place_of (length bs)) (whole f bs))

      go : (error : FieldError) → place_of (length bytes) error ≡ place
          → (f.read bytes ≡ Err error) ⊎ ((x : X × List ℕ) × (f.read bytes ≡ Ok x) × (ended x ≡ Err error))
          → IsValidTo place (at_place (place_of (length (take place bytes))) (whole f (take place bytes)))
      go (Truncated k) at h =
          let all : take place bytes ≡ bytes = take_all place bytes (omega (arith, at)) in
          rw (all, e) refl
      go (Invalid k) at (inl h) =
          let p = F.placed bytes (Invalid k) fits h in
          let size : length bytes ≡ length p.front + length p.back = ap length p.parts ∙ length-append p.front p.back in
          let is : length p.front ≡ place = omega (arith, size, at, p.place) in
          let front : take place bytes ≡ p.front = ap (take place) p.parts ∙ take_at p.front p.back place is in
          rw front (edge_valid p.front place is p.edge)
      go (Invalid k) at (inr h) =
          let b = ended_err h.0.0 h.0.1 (Invalid k) h.2 in
          let left : k ≡ length h.0.1 = invalid_is k (length h.0.1) b.0 in
          let g = F.found bytes h.0.0 h.0.1 fits h.1 in
          let text : List ℕ = f.spell h.0.0 in
          let size : length bytes ≡ length text + length h.0.1 = ap length g.0 ∙ length-append text h.0.1 in
          let is : length text ≡ place = omega (arith, size, at, left) in
          let front : take place bytes ≡ text = ap (take place) g.0 ∙ take_at text h.0.1 place is in
          rw (front, spelled_alone text h.0.0 (record { fits = g.1; is = refl })) tt

  pub decodes_well : DecodesWell f
  decodes_well = record {
    found = well_found;
    again = well_again;
    one = λ bytes x y s t. one_value x y (sym (well_again bytes x s) ∙ well_again bytes y t);
    within = λ bytes place fits e. well_within bytes place e;
    truncated = well_truncated;
    too_many = well_too_many;
    stays = well_stays;
    before = well_before;
  }
    where
      one_value : (x y : X) → (let r : Result X ℕ = Ok x in r) ≡ Ok y → x ≡ y
      one_value x y e = cc

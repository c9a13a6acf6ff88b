-- Reading values one after the other.
use Rattle.std.proofs.Common.{◌≡◌, ℕ, zero, suc, ◌-◌, ◌+◌, ◌≤◌, ◌<◌, Bool, true, List, [], ◌∷◌, ◌++◌, length}
use Rattle.std.proofs.Common.{Ok, Err, refl, sym, ap, subst, ◌∙◌, append_assoc, arith}
use Rattle.std.specs.List.{flat_map}
use Rattle.std.proofs.lemmas.List.{append-nil, length_push}
use Rattle.std.proofs.lemmas.List.Concat.{flat_map-cons}
use Rattle.byte_formats.specs.declared.error.DecodeError.{DecodeError}
use Rattle.byte_formats.specs.declared.error.DecodeError.TheVariants as stop
use Rattle.byte_formats.specs.Answers.{Fails}
use Rattle.byte_formats.specs.Format.{Read}
use Rattle.docs_format.specs.Reading.{list_at}
use Rattle.docs_format.proofs.Fields.{bind_ok, ok_is}

-- ---- as a loop does

pub goes_on : {X : Type 0} (item_at : List X → List ℕ → Read X) (before : List X) (count i : ℕ) (bytes : List ℕ) (x : X)
    (rest : List ℕ) (total : Read (List X))
    → i < count → item_at before bytes ≡ Ok (x, rest) → list_at item_at before (count - i) bytes ≡ total
    → list_at item_at (before ++ x ∷ []) (count - (i + 1)) rest ≡ total
unfolding list_at
goes_on item_at before count i bytes x rest total lt h so_far =
    let k : count - i ≡ suc (count - (i + 1)) = omega arith in
    let one : list_at item_at before (count - i) bytes ≡ list_at item_at (before ++ x ∷ []) (count - (i + 1)) rest =
    rw (k, h) refl in
    sym one ∙ so_far

pub stops : {X : Type 0} (why : DecodeError) (item_at : List X → List ℕ → Read X) (before : List X) (count i : ℕ)
    (bytes : List ℕ) (total : Read (List X))
    → i < count → Fails why (item_at before bytes) → list_at item_at before (count - i) bytes ≡ total → Fails why total
unfolding list_at
stops stop.Memory item_at before count i bytes total lt h so_far = tt
stops (stop.Bad fault) item_at before count i bytes total lt h so_far =
    let k : count - i ≡ suc (count - (i + 1)) = omega arith in
    let one : list_at item_at before (count - i) bytes ≡ Err fault = rw (k, h) refl in
    sym so_far ∙ one

pub ends : {X : Type 0} (item_at : List X → List ℕ → Read X) (before : List X) (count i : ℕ) (bytes : List ℕ)
    (total : Read (List X))
    → count ≤ i → list_at item_at before (count - i) bytes ≡ total → total ≡ Ok (before, bytes)
unfolding list_at
ends item_at before count i bytes total le so_far =
    let k : count - i ≡ 0 = omega arith in
    let one : list_at item_at before (count - i) bytes ≡ Ok (before, bytes) = rw k refl in
    sym so_far ∙ one

-- ---- what is read

module _ {X : Type 0} (item_at : List X → List ℕ → Read X) where
  pub list_counts : (n : ℕ) (before : List X) (bytes : List ℕ) (x : List X × List ℕ)
      → list_at item_at before n bytes ≡ Ok x → length x.0 ≡ length before + n
  unfolding list_at
  list_counts zero before bytes x e =
      let same : length before ≡ length x.0 = ap (λ (y : List X × List ℕ). length y.0) (ok_is (before, bytes) x e) in
      omega (arith, same)
  list_counts (suc n) before bytes x e =
      let a = bind_ok (item_at before bytes) (λ item. list_at item_at (before ++ item.0 ∷ []) n item.1) x e in
      omega (arith, list_counts n (before ++ a.0.0 ∷ []) a.0.1 x a.2, length_push before a.0.0)

  -- what holds of the values so far, and still with each one more, holds of all
  pub list_keeps : (P : List X → Type 0)
      → ((before : List X) (bytes : List ℕ) (x : X × List ℕ) → P before → item_at before bytes ≡ Ok x → P
      (before ++ x.0 ∷ []))
      → (n : ℕ) (before : List X) (bytes : List ℕ) (x : List X × List ℕ) → P before
      → list_at item_at before n bytes ≡ Ok x → P x.0
  unfolding list_at
  list_keeps P each zero before bytes x p e =
      subst (λ (y : List X × List ℕ). P y.0) (ok_is (before, bytes) x e) p
  list_keeps P each (suc n) before bytes x p e =
      let a = bind_ok (item_at before bytes) (λ item. list_at item_at (before ++ item.0 ∷ []) n item.1) x e in
      list_keeps P each n (before ++ a.0.0 ∷ []) a.0.1 x (each before bytes a.0 p a.1) a.2

-- ---- what was written

abbrev pub Follows : {X : Type 0} → (List X → X → Type 0) → List X → List X → Type 0
Follows P before [] = Unit {0}
Follows P before (y ∷ ys) = P before y × Follows P (before ++ y ∷ []) ys

module _ {X : Type 0} (item_at : List X → List ℕ → Read X) (spelling : X → List ℕ) (P : List X → X → Type 0)
    (each : (before : List X) (y : X) (rest : List ℕ) → P before y → item_at before (spelling y ++ rest) ≡ Ok
    (y, rest)) where
  pub list_again : (ys before : List X) (rest : List ℕ) → Follows P before ys
      → list_at item_at before (length ys) (flat_map spelling ys ++ rest) ≡ Ok (before ++ ys, rest)
  unfolding list_at
  list_again [] before rest f = ap (λ (xs : List X). Ok (xs, rest)) (sym (append-nil before))
  list_again (y ∷ ys) before rest f =
      let behind : List ℕ = flat_map spelling ys ++ rest in
      let regrouped : flat_map spelling (y ∷ ys) ++ rest ≡ spelling y ++ behind =
      ap (λ (t : List ℕ). t ++ rest) (flat_map-cons spelling y ys)
      ∙ append_assoc (spelling y) (flat_map spelling ys) rest in
      ap (list_at item_at before (suc (length ys))) regrouped
      ∙ rw (each before y behind f.0)
      (list_again ys (before ++ y ∷ []) rest f.1 ∙ ap (λ (xs : List X). Ok (xs, rest))
      (append_assoc before (y ∷ []) ys))

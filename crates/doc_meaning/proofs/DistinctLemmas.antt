-- URIs of which none is named twice.
use Rattle.std.proofs.Common.{◌≡◌, ℕ, Bool, true, false, cond, not, ◌||◌, ◌&&◌, List, [], ◌∷◌, ◌++◌}
use Rattle.std.proofs.Common.{None, Some, bytes_eq, refl, sym, ap, ◌∙◌, ⊎_elim}
use Rattle.std.proofs.lemmas.Bool.{cases_Bool, false≢true, or_parts}
use Rattle.std.proofs.lemmas.List.Folds.{list_any-append}
use Rattle.std.proofs.lemmas.Slice.Eq.{bytes_eq-Decides}
use Rattle.doc_model.specs.Tree.{is_among, is_distinct}
use Rattle.doc_meaning.specs.Replies.{first_twice}

pub no_more : (uris others : List (List ℕ)) (uri : List ℕ) → is_among (uris ++ others) uri ≡ false →
    (is_among uris uri ≡ false) × (is_among others uri ≡ false)
no_more uris others uri h =
    or_parts (is_among uris uri) (is_among others uri) (sym (list_any-append (bytes_eq uri) uris others) ∙ h)

pub nor_both : (uris others : List (List ℕ)) (uri : List ℕ) → is_among uris uri ≡ false → is_among others uri ≡ false →
    is_among (uris ++ others) uri ≡ false
nor_both uris others uri g h =
    list_any-append (bytes_eq uri) uris others ∙ ap (λ b. b || is_among others uri) g ∙ h

-- URIs of which none is among the earlier ones
abbrev AreNew : List (List ℕ) → List (List ℕ) → Type 0
AreNew earlier uris = (uri : List ℕ) → is_among uris uri ≡ true → is_among earlier uri ≡ false

first_is_new : (earlier uris : List (List ℕ)) (uri : List ℕ) → AreNew (earlier ++ uri ∷ []) uris →
    is_among uris uri ≡ false
first_is_new earlier uris uri new =
    ⊎_elim
    (λ g. absurd (false≢true (sym (no_more earlier (uri ∷ []) uri (new uri g)).1
    ∙ ap (λ b. b || false) ((bytes_eq-Decides uri uri).1 refl))))
    (λ g. g) (cases_Bool (is_among uris uri))

same_or_later : (earlier uris : List (List ℕ)) (uri : List ℕ) → is_among earlier uri ≡ false →
    AreNew (earlier ++ uri ∷ []) uris → AreNew earlier (uri ∷ uris)
same_or_later earlier uris uri apart new other g =
    ⊎_elim
    (λ same. ap (is_among earlier) ((bytes_eq-Decides other uri).0 same) ∙ apart)
    (λ differs. (no_more earlier (uri ∷ []) other (new other (sym (ap (λ b. b || is_among uris other) differs) ∙ g))).0)
    (cases_Bool (bytes_eq other uri))

none_twice : (earlier uris : List (List ℕ)) → first_twice earlier uris ≡ None →
    (is_distinct uris ≡ true) × AreNew earlier uris
none_twice earlier [] none = (refl, λ uri g. absurd (false≢true g))
none_twice earlier (uri ∷ uris) none =
    elim (is_among earlier uri) as (λ b. is_among earlier uri ≡ b →
    cond b (Some uri) (first_twice (earlier ++ uri ∷ []) uris) ≡ None →
    (is_distinct (uri ∷ uris) ≡ true) × AreNew earlier (uri ∷ uris)) [
      | true ↦ λ _ some. absurd (some_is_not some)
      | false ↦ λ apart later.
          let rest = none_twice (earlier ++ uri ∷ []) uris later in (
            ap (λ b. not b && is_distinct uris) (first_is_new earlier uris uri rest.1) ∙ rest.0,
            same_or_later earlier uris uri apart rest.1,
          )
    ] refl none
  where
    some_is_not : Some uri ≡ None → ⊥
    some_is_not e = cc

-- URIs of which none is named twice are distinct
pub distinct_from_none : (uris : List (List ℕ)) → None ≡ first_twice [] uris → is_distinct uris ≡ true
distinct_from_none uris none = (none_twice [] uris (sym none)).0

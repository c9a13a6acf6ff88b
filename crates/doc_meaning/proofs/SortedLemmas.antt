-- The URIs of an answer rise.
use Rattle.std.proofs.Common.{◌≡◌, T, cond, Bool, true, false, List, [], ◌∷◌, map, filter, refl}
use Rattle.std.proofs.lemmas.Bool.{and_parts}
use Rattle.std.specs.Cmp.Lexicographic.{slice_cmp}
use Rattle.std.specs.FinMap.{entries, entries_sorted}
use Rattle.std.specs.FinMap.Entries.{below_all, is_sorted}
use Rattle.std.specs.List.{AllByRecursion}
use Rattle.std.specs.List.Sorted.{IsStrictlySortedBy}
use Rattle.std.specs.Ordering.{is_lt, nat_cmp}
use Rattle.std.specs.declared.cmp.Ordering.{Ordering}
use Rattle.std.specs.declared.cmp.Ordering.TheVariants.{Equal, Greater, Less}
use Rattle.doc_meaning.specs.History.{database_at}
use Rattle.doc_meaning.specs.Laws.{AnswersAreSorted}
use Rattle.doc_meaning.specs.Meaning.{satisfies}

is_less : (o : Ordering) → is_lt o ≡ true → o ≡ Less
is_less Less e = refl
is_less Equal e = cc
is_less Greater e = cc

from_T : (b : Bool) → T b → b ≡ true
from_T true h = refl
from_T false h = absurd h

module _ {K X : Type 0} (R : K → K → Ordering) (p : K × X → Bool) where
  abbrev kept : List (K × X) → List K
  kept es = map (λ e. e.0) (filter p es)

  below_kept : (k : K) (es : List (K × X)) → below_all R k es ≡ true → AllByRecursion (λ y. R k y ≡ Less) (kept es)
  below_kept k [] h = tt
  below_kept k (e ∷ es) h =
      let parts = and_parts (is_lt (R k e.0)) (below_all R k es) h in
      elim (p e) as (λ b. AllByRecursion (λ y. R k y ≡ Less) (map (λ e. e.0) (cond b (e ∷ filter p es) (filter p es)))) [
        | true ↦ (is_less _ parts.0, below_kept k es parts.1)
        | false ↦ below_kept k es parts.1
      ]

  pub kept_sorted : (es : List (K × X)) → is_sorted R es ≡ true → IsStrictlySortedBy R (kept es)
  unfolding IsStrictlySortedBy
  kept_sorted [] h = tt
  kept_sorted (e ∷ es) h =
      let parts = and_parts (below_all R e.0 es) (is_sorted R es) h in
      elim (p e) as (λ b. IsStrictlySortedBy R (map (λ e. e.0) (cond b (e ∷ filter p es) (filter p es)))) [
        | true ↦ (below_kept e.0 es parts.0, kept_sorted es parts.1)
        | false ↦ kept_sorted es parts.1
      ]

pub answers_are_sorted : AnswersAreSorted
answers_are_sorted h at q = kept_sorted (slice_cmp nat_cmp) (λ e. satisfies q e.1.document) (entries (database_at h at))
    (from_T _ (entries_sorted (database_at h at)))

use Rattle.std.proofs.Common.{◌++◌, Contains, ap, sym, ◌∙◌, subst, inl, inr}
use Rattle.std.proofs.lemmas.List.Elements.{Contains-append_cases, Contains-append_left, Contains-append_right}
use Rattle.std.proofs.lemmas.List.Filters.{dedup_is}
use Rattle.std.proofs.lemmas.List.Kept.{Contains-dedup_nat, Contains-from_dedup}
use Rattle.std.proofs.lemmas.List.Sorted.{Contains-permutation, IsPermutation-sym}
use Rattle.std.proofs.lemmas.Map.Keys.{IsStrictlyIncreasing-dedup}
use Rattle.range_index.proofs.fragments.distinct.Goals as goal

pub returns : goal.returns
returns c =
    let front = c.args.front.now in
    let back = c.args.back.now in
    let is = dedup_is _ _ _ c.dedup.ensures.filtered in
    let moved = c.sort_unstable.ensures.permutation in
    let joined = c.in_ok-extend_from_slice.ensures.items ∙ ap (λ items. items ++ back) c.in_ok-found.ensures.items in
    record {
      members = λ n. (
        λ within. Contains-append_cases front back n
            (subst (λ items. Contains items n) joined
            (Contains-permutation _ _ n (IsPermutation-sym _ _ moved) (Contains-from_dedup _ _ n (rw is at within)))),
        λ either.
            let within : Contains (front ++ back) n = elim either [
              | inl left ↦ Contains-append_left front back n left
              | inr right ↦ Contains-append_right front back n right
            ] in
            rw is (Contains-dedup_nat _ n
            (Contains-permutation _ _ n moved (subst (λ items. Contains items n) (sym joined) within))),
      );
      rising = rw is (IsStrictlyIncreasing-dedup _ c.sort_unstable.ensures.sorted);
    }

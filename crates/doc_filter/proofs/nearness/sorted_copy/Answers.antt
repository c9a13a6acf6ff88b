use Rattle.std.proofs.Common.{IsPermutation, subst, sym}
use Rattle.std.proofs.lemmas.List.Sorted.{IsNonDecreasingBy-from_sort}
use Rattle.std.specs.List.Sorted.{IsNonDecreasing}
use Rattle.doc_filter.proofs.nearness.sorted_copy.Goals as goal

pub returns : goal.returns
returns c =
    let sorted = c.sort_unstable.new.self.items in
    record {
      same = subst (IsPermutation c.args.numbers.now) (sym c.from_vec.ensures)
          (subst (λ numbers. IsPermutation numbers sorted) c.in_ok-sorted.ensures.items
          c.sort_unstable.ensures.permutation);
      order = subst IsNonDecreasing (sym c.from_vec.ensures)
          (IsNonDecreasingBy-from_sort (λ n. n) sorted c.sort_unstable.ensures.sorted);
    }

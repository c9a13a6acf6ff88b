use Rattle.std.proofs.Common.{take}
use Rattle.doc_filter.proofs.NearLemmas.{AreSorted}
use Rattle.doc_filter.proofs.nearness.sorted_lists.Given as goal

abbrev pub invariant-loop-numbers : goal.invariant-loop-numbers
invariant-loop-numbers l = AreSorted (take l.numbers-index l.lists) l.out

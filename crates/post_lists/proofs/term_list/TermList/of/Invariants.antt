use Rattle.std.proofs.Common.{◌≡◌, take}
use Rattle.post_lists.proofs.term_list.TermList.of.Given as goal

abbrev pub invariant-loop-item : goal.invariant-loop-item
invariant-loop-item l = l.list ≡ take l.item-index l.items

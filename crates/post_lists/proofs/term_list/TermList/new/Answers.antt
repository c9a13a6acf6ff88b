use Rattle.std.proofs.Common.{refl}
use Rattle.post_lists.specs.Numbers.{items_of}
use Rattle.post_lists.proofs.Skips.{keeps_none}
use Rattle.post_lists.proofs.term_list.TermList.new.Goals as goal

pub invariant_of-result : goal.invariant_of-result
unfolding items_of
invariant_of-result c = keeps_none c.new.result.items c.new-2.result.items c.new.ensures.items c.new-2.ensures.items

pub returns : goal.returns
unfolding items_of
returns c = refl

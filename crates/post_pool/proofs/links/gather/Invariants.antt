use Rattle.std.proofs.Common.{◌≡◌, ◌++◌, ◌+◌, ◌≤◌, vec_len, vec_capacity}
use Rattle.post_pool.specs.Links.{LeadsTo, items_from, items_of}
use Rattle.post_pool.proofs.links.gather.Given as goal

abbrev pub invariant-loop-left : goal.invariant-loop-left
invariant-loop-left l = record {
  linked : LeadsTo l.nodes l.fn.ends.last l.at l.left;
  room : vec_len l.out + l.left ≤ vec_capacity l.out;
  gathered : l.out.items ++ items_from l.nodes l.at l.left ≡ l.fn.out.items ++ items_of l.nodes l.fn.ends;
}

abbrev pub decreases-loop-left : goal.decreases-loop-left
decreases-loop-left l = l.left

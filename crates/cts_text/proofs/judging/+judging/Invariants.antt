use Rattle.std.proofs.Common.{◌≡◌, ◌+◌, ◌≤◌, drop, sum_by}
use Rattle.cts_meaning.specs.Faults.{node_count}
use Rattle.cts_meaning.specs.Shapes.{item_parts, member_parts, rule_of}
use Rattle.cts_text.proofs.Steps.{Goes}
use Rattle.cts_text.proofs.judging.+judging.Given as goal

abbrev pub invariant-judge_items-loop-item : goal.invariant-judge_items-loop-item
invariant-judge_items-loop-item l = record {
  goes : Goes (item_parts l.shape (drop l.item-index l.items)) l.next (item_parts l.shape l.items) l.fn.number;
  room : l.next + sum_by node_count (drop l.item-index l.items) ≡ l.fn.number + sum_by node_count l.items;
}

abbrev pub invariant-judge_members-loop-member : goal.invariant-judge_members-loop-member
invariant-judge_members-loop-member l = record {
  goes : Goes (member_parts (rule_of l.shape).member (drop l.member-index l.members)) l.next
      (member_parts (rule_of l.shape).member l.members) l.fn.number;
  room : l.next + sum_by (λ m. node_count m.1) (drop l.member-index l.members) ≤ l.fn.number + sum_by
      (λ m. node_count m.1) l.members;
}

use Rattle.std.proofs.Common.{◌≡◌, ◌+◌, take, sum_by, length}
use Rattle.doc_model.specs.Tree.{size}
use Rattle.doc_model.proofs.size.+charge.Given as goal

abbrev pub invariant-charge_items-loop-item : goal.invariant-charge_items-loop-item
invariant-charge_items-loop-item l = l.rest + sum_by size (take l.item-index l.items) ≡ l.left

abbrev pub invariant-charge_members-loop-member : goal.invariant-charge_members-loop-member
invariant-charge_members-loop-member l = l.rest + sum_by (λ m. length m.0 + size m.1) (take l.member-index l.members) ≡ l.left

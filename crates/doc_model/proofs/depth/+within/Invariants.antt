use Rattle.std.proofs.Common.{◌≤◌, ◌↔◌, drop, map}
use Rattle.doc_model.specs.Tree.{depth, greatest}
use Rattle.doc_model.proofs.depth.+within.Given as goal

abbrev pub invariant-items_within-loop-item : goal.invariant-items_within-loop-item
invariant-items_within-loop-item l =
    (greatest (map depth (drop l.item-index l.items)) ≤ l.limit) ↔ (greatest (map depth l.items) ≤ l.limit)

abbrev pub invariant-members_within-loop-member : goal.invariant-members_within-loop-member
invariant-members_within-loop-member l = (greatest (map (λ m. depth m.1) (drop l.member-index l.members)) ≤ l.limit) ↔
    (greatest (map (λ m. depth m.1) l.members) ≤ l.limit)

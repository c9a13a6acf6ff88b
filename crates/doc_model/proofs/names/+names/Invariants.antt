use Rattle.std.proofs.Common.{◌≡◌, drop}
use Rattle.std.specs.List.{list_all}
use Rattle.doc_model.specs.Tree.{has_distinct_names}
use Rattle.doc_model.proofs.names.+names.Given as goal

abbrev pub invariant-items_distinct-loop-item : goal.invariant-items_distinct-loop-item
invariant-items_distinct-loop-item l =
    list_all has_distinct_names (drop l.item-index l.items) ≡ list_all has_distinct_names l.items

abbrev pub invariant-members_distinct-loop-member : goal.invariant-members_distinct-loop-member
invariant-members_distinct-loop-member l = list_all (λ m. has_distinct_names m.1) (drop l.member-index l.members) ≡
    list_all (λ m. has_distinct_names m.1) l.members

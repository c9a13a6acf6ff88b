use Rattle.std.proofs.Common.{◌≡◌, ◌++◌, take, flat_map, Some}
use Rattle.std.specs.Option.{option_copied}
use Rattle.doc_meaning.specs.Strings.{scalars_under}
use Rattle.plain_query.proofs.scalar_list.+scalars.Given as goal

abbrev pub invariant-add_items-loop-item : goal.invariant-add_items-loop-item
invariant-add_items-loop-item l =
    l.out ≡ l.fn.out ++ flat_map (λ item. scalars_under item (option_copied l.fn.property)) (take l.item-index l.items)

abbrev pub invariant-add_members-loop-member : goal.invariant-add_members-loop-member
invariant-add_members-loop-member l =
    l.out ≡ l.fn.out ++ flat_map (λ member. scalars_under member.1 (Some member.0)) (take l.member-index l.members)

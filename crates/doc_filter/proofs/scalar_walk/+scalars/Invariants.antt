use Rattle.std.proofs.Common.{◌≡◌, false, take, Some}
use Rattle.std.specs.List.{list_any}
use Rattle.std.specs.Option.{option_copied}
use Rattle.doc_filter.specs.Scalars.{passes, some_named}
use Rattle.doc_meaning.specs.Strings.{scalars_under}
use Rattle.doc_filter.proofs.scalar_walk.+scalars.Given as goal

abbrev pub invariant-some_item_passes-loop-item : goal.invariant-some_item_passes-loop-item
invariant-some_item_passes-loop-item l =
    let has = some_named l.names (passes l.test) in
    list_any (λ item. has (scalars_under item (option_copied l.fn.property))) (take l.item-index l.items) ≡ false

abbrev pub invariant-some_member_passes-loop-member : goal.invariant-some_member_passes-loop-member
invariant-some_member_passes-loop-member l =
    let has = some_named l.names (passes l.test) in
    list_any (λ member. has (scalars_under member.1 (Some member.0))) (take l.member-index l.members) ≡ false

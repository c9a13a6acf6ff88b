use Rattle.std.proofs.Common.{◌≡◌, false, take, Some}
use Rattle.std.specs.List.{list_any}
use Rattle.std.specs.Option.{option_copied}
use Rattle.doc_filter.specs.Tokenized.{some_text_has, texts_under}
use Rattle.doc_filter.proofs.text_walk.+texts.Given as goal

abbrev pub invariant-occurs_in_items-loop-item : goal.invariant-occurs_in_items-loop-item
invariant-occurs_in_items-loop-item l =
    let has = some_text_has l.any_case l.wanted (option_copied l.fn.names) in
    list_any (λ item. has (texts_under item (option_copied l.fn.property))) (take l.item-index l.items) ≡ false

abbrev pub invariant-occurs_in_members-loop-member : goal.invariant-occurs_in_members-loop-member
invariant-occurs_in_members-loop-member l =
    let has = some_text_has l.any_case l.wanted (option_copied l.fn.names) in
    list_any (λ member. has (texts_under member.1 (Some member.0))) (take l.member-index l.members) ≡ false

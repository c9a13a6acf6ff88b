use Rattle.std.proofs.Common.{◌≡◌, ◌+◌, ◌<◌, ◌^◌, ◌++◌, IfOk, OnOk, Some, subst, sym, rules}
use Rattle.std.specs.Option.{option_copied}
use Rattle.doc_model.specs.declared.node.Node.TheViews.{sized-Items, sized-Members}
use Rattle.doc_filter.specs.Tokenized.{texts_of_items, texts_of_members, texts_under, word_count, tokenized_from}
use Rattle.doc_filter.proofs.TokenizedLemmas.{strings_more, texts_items, texts_members}
use Rattle.doc_filter.proofs.tokenized_strings.+strings.Goals as goal

pub add_items-loop-item-preserved : goal.add_items-loop-item-preserved
add_items-loop-item-preserved t c =
    let property = option_copied c.args.property in
    let more = strings_more (λ item. texts_under item property) c.args.items.now c.as_slice-item-items.result.now
    c.loop-item.item-index c.item-item.result c.args.any_case c.loop-item.next c.in_ok-next.next
    (c.args.first_position + word_count (texts_of_items c.args.items.now property)) c.loop-item.out c.add_strings.new.out
    (c.args.out.now ++ tokenized_from c.args.any_case c.args.first_position (texts_of_items c.args.items.now property))
    c.as_slice-item-items.ensures c.loop-item-test.true c.item-item.is c.in_ok-next.ensures.next
    c.in_ok-next.ensures.added c.loop-item.invariant.told c.loop-item.invariant.counted in
    record { told = more.0; counted = more.1 }

pub add_members-loop-member-preserved : goal.add_members-loop-member-preserved
add_members-loop-member-preserved t c =
    let more = strings_more (λ member. texts_under member.1 (Some member.0)) c.args.members.now
    c.as_slice-member-items.result.now c.loop-member.member-index c.member-item.result c.args.any_case c.loop-member.next
    c.in_ok-next.next (c.args.first_position + word_count (texts_of_members c.args.members.now)) c.loop-member.out
    c.add_strings.new.out
    (c.args.out.now ++ tokenized_from c.args.any_case c.args.first_position (texts_of_members c.args.members.now))
    c.as_slice-member-items.ensures c.loop-member-test.true c.member-item.is c.in_ok-next.ensures.next
    c.in_ok-next.ensures.added c.loop-member.invariant.told c.loop-member.invariant.counted in
    record { told = more.0; counted = more.1 }

pub add_strings-add_items-requires : goal.add_strings-add_items-requires
add_strings-add_items-requires t c = (
  search (rules, sized-Items),
  subst (λ texts. c.args.first_position + word_count texts < 2 ^ 64)
      (texts_items c.args.node.now c.in-Items.items (option_copied c.args.property) c.in-Items.is) c.requires,
)

pub add_strings-add_members-requires : goal.add_strings-add_members-requires
add_strings-add_members-requires t c = (
  search (rules, sized-Members),
  subst (λ texts. c.args.first_position + word_count texts < 2 ^ 64)
      (texts_members c.args.node.now c.in-Members.members (option_copied c.args.property) c.in-Members.is) c.requires,
)

pub add_strings-returns-in-Items-clause-next : goal.add_strings-returns-in-Items-clause-next
add_strings-returns-in-Items-clause-next t c =
    subst (λ texts. IfOk c.add_items.result (λ n. n ≡ c.args.first_position + word_count texts))
    (sym (texts_items c.args.node.now c.in-Items.items (option_copied c.args.property) c.in-Items.is))
    c.add_items.ensures.next

pub add_strings-returns-in-Items-clause-added : goal.add_strings-returns-in-Items-clause-added
add_strings-returns-in-Items-clause-added t c =
    subst
    (λ texts. OnOk c.add_items.result
    (c.add_items.new.out ≡ c.args.out.now ++ tokenized_from c.args.any_case c.args.first_position texts))
    (sym (texts_items c.args.node.now c.in-Items.items (option_copied c.args.property) c.in-Items.is))
    c.add_items.ensures.added

pub add_strings-returns-in-Members-clause-next : goal.add_strings-returns-in-Members-clause-next
add_strings-returns-in-Members-clause-next t c =
    subst (λ texts. IfOk c.add_members.result (λ n. n ≡ c.args.first_position + word_count texts))
    (sym (texts_members c.args.node.now c.in-Members.members (option_copied c.args.property) c.in-Members.is))
    c.add_members.ensures.next

pub add_strings-returns-in-Members-clause-added : goal.add_strings-returns-in-Members-clause-added
add_strings-returns-in-Members-clause-added t c =
    subst
    (λ texts. OnOk c.add_members.result
    (c.add_members.new.out ≡ c.args.out.now ++ tokenized_from c.args.any_case c.args.first_position texts))
    (sym (texts_members c.args.node.now c.in-Members.members (option_copied c.args.property) c.in-Members.is))
    c.add_members.ensures.added

use Rattle.std.proofs.Common.{ap, ◌∙◌, ◌&&◌, true, ◌≡◌, map}
use Rattle.std.specs.Prelude.{string_bytes}
use Rattle.std.specs.Str.{is_utf8}
use Rattle.std.proofs.lemmas.Bool.{and_from}
use Rattle.json_text.specs.Grammar.{joined}
use Rattle.json_text.specs.Canonical.{node_text, member_text, quoted, has_values}
use Rattle.json_text.proofs.Written.{joined_more, all_more, more_some, bracketed, member_whole, members_text, on_ok}
use Rattle.json_text.proofs.CanonicalTrees.{values_items, values_members}
use Rattle.json_text.proofs.writing.+writing.Goals as goal

pub put_items-loop-item-preserved : goal.put_items-loop-item-preserved
put_items-loop-item-preserved t c = record {
  more = more_some c.loop-item.item-index;
  written =
      joined_more node_text c.args.items.now c.as_slice-item-items.result.now c.loop-item.item-index
      c.item-item.result c.loop-item.more (string_bytes c.args.out.now) (string_bytes c.loop-item.out)
      (string_bytes c.put_comma.new.out) (string_bytes c.put_node.new.out)
      c.as_slice-item-items.ensures c.loop-item-test.true c.item-item.is c.loop-item.invariant.more
      c.loop-item.invariant.written c.in_ok-put_comma.ensures c.in_ok-put_node.ensures.written;
  values =
      all_more has_values c.args.items.now c.as_slice-item-items.result.now c.loop-item.item-index c.item-item.result
      c.as_slice-item-items.ensures c.loop-item-test.true c.item-item.is c.loop-item.invariant.values
      c.in_ok-put_node.ensures.values;
}

pub put_members-loop-member-preserved : goal.put_members-loop-member-preserved
put_members-loop-member-preserved t c =
    let m = c.member-item.result in
    record {
      more = more_some c.loop-member.member-index;
      written =
          joined_more member_text c.args.members.now c.as_slice-member-items.result.now c.loop-member.member-index m
          c.loop-member.more (string_bytes c.args.out.now) (string_bytes c.loop-member.out)
          (string_bytes c.put_comma.new.out) (string_bytes c.put_node.new.out)
          c.as_slice-member-items.ensures c.loop-member-test.true c.member-item.is c.loop-member.invariant.more
          c.loop-member.invariant.written c.in_ok-put_comma.ensures
          (member_whole (string_bytes c.put_node.new.out) (string_bytes c.put_text.new.out)
          (string_bytes c.put_ascii.new.out) (string_bytes c.put_comma.new.out) (quoted m.0) (node_text m.1)
          c.in_ok-put_text.ensures.written c.in_ok-put_ascii.ensures c.in_ok-put_node.ensures.written);
      values =
          all_more (λ k. is_utf8 k.0 && has_values k.1) c.args.members.now c.as_slice-member-items.result.now
          c.loop-member.member-index m c.as_slice-member-items.ensures c.loop-member-test.true c.member-item.is
          c.loop-member.invariant.values
          (and_from (is_utf8 m.0) (has_values m.1) c.in_ok-put_text.ensures.utf8 c.in_ok-put_node.ensures.values);
    }

pub put_node-returns-in_ok-put_members-in-Members-clause-written : goal.put_node-returns-in_ok-put_members-in-Members-clause-written
put_node-returns-in_ok-put_members-in-Members-clause-written t c =
    let inner = joined (map member_text c.in-Members.members) in
    rw (
      c.in-Members.is,
      members_text c.in-Members.members,
      bracketed (string_bytes c.put_members.new.out)
          (string_bytes c.put_ascii-in-Members.new.out) (string_bytes c.args.out.now) inner 123 125
          c.in_ok-put_members-in-Members.ensures.written c.in_ok-put_ascii-in-Members.ensures,
    )
    c.put_ascii-in-Members-2.ensures

pub put_node-returns-in_ok-put_items-in-Items-clause-values : goal.put_node-returns-in_ok-put_items-in-Items-clause-values
put_node-returns-in_ok-put_items-in-Items-clause-values t c =
    let e : has_values c.args.node.now ≡ true =
    ap has_values c.in-Items.is ∙ values_items c.in-Items.items ∙ c.in_ok-put_items-in-Items.ensures.values in
    on_ok c.put_ascii-in-Items.result (has_values c.args.node.now ≡ true) e

pub put_node-returns-in_ok-put_members-in-Members-clause-values : goal.put_node-returns-in_ok-put_members-in-Members-clause-values
put_node-returns-in_ok-put_members-in-Members-clause-values t c =
    let e : has_values c.args.node.now ≡ true = ap has_values c.in-Members.is ∙ values_members c.in-Members.members ∙
    c.in_ok-put_members-in-Members.ensures.values in
    on_ok c.put_ascii-in-Members-2.result (has_values c.args.node.now ≡ true) e

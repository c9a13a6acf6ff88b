use Rattle.std.proofs.Common.{◌+◌, ◌<◌, ◌^◌, ap, sym, subst, ◌∙◌, arith, drop}
use Rattle.std.proofs.lemmas.Result.{err_from_is_err_and}
use Rattle.doc_model.specs.declared.node.Node.TheOpen.{Node-F}
use Rattle.doc_model.proofs.node.Node.TheLaws.{the_size}
use Rattle.doc_model.specs.declared.node.Node.{Node}
use Rattle.doc_model.specs.declared.node.Node.TheShapes.{weighed-Node-Members-0-at-2}
use Rattle.doc_model.specs.declared.node.Node.TheViews.{out-Node}
use Rattle.cts_meaning.specs.Faults.{node_count}
use Rattle.cts_meaning.specs.Shapes.{item_parts, member_parts, no_parts, rule_of}
use Rattle.cts_meaning.proofs.Nodes.{out_bool, out_items, out_members, out_null, out_number, out_text}
use Rattle.json_text.specs.Grammar.{Member}
use Rattle.cts_text.specs.Judging.{JudgesBy}
use Rattle.cts_text.proofs.Steps.{drop_end, goes_end, items_more, items_stop, members_more, members_stop, sum_step}
use Rattle.cts_text.proofs.Steps.{weight_within}
use Rattle.cts_text.proofs.Walk.{judged}
use Rattle.cts_text.proofs.judging.+judging.Goals as goal

pub judge-returns-in-Null : goal.judge-returns-in-Null
judge-returns-in-Null t c =
    judged c.args.shape c.args.node.now Node-F.Null c.args.number c.judge_scalar.result
    (ap out-Node c.in-Null.is ∙ out_null)
    (subst (λ b. JudgesBy (no_parts b) c.args.number c.judge_scalar.result) c.flat_fits.ensures c.judge_scalar.ensures)

pub judge-returns-in-Bool : goal.judge-returns-in-Bool
judge-returns-in-Bool t c =
    judged c.args.shape c.args.node.now (Node-F.Bool c.in-Bool.field-0) c.args.number c.judge_scalar-in-Bool.result
    (ap out-Node c.in-Bool.is ∙ out_bool c.in-Bool.field-0)
    (subst (λ b. JudgesBy (no_parts b) c.args.number c.judge_scalar-in-Bool.result) c.flat_fits-in-Bool.ensures
    c.judge_scalar-in-Bool.ensures)

pub judge-returns-in-Num : goal.judge-returns-in-Num
judge-returns-in-Num t c =
    judged c.args.shape c.args.node.now (Node-F.Num c.in-Num.units) c.args.number c.judge_scalar-in-Num.result
    (ap out-Node c.in-Num.is ∙ out_number c.in-Num.units)
    (subst (λ b. JudgesBy (no_parts b) c.args.number c.judge_scalar-in-Num.result) c.number_fits.ensures
    c.judge_scalar-in-Num.ensures)

pub judge-returns-in-Text : goal.judge-returns-in-Text
judge-returns-in-Text t c =
    judged c.args.shape c.args.node.now (Node-F.Text c.in-Text.text) c.args.number c.judge_scalar-in-Text.result
    (ap out-Node c.in-Text.is ∙ out_text c.in-Text.text)
    (subst (λ b. JudgesBy (no_parts b) c.args.number c.judge_scalar-in-Text.result)
    (c.text_fits.ensures ∙ ap (rule_of c.args.shape).text c.as_str.ensures) c.judge_scalar-in-Text.ensures)

pub judge-returns-in-Items : goal.judge-returns-in-Items
judge-returns-in-Items t c =
    judged c.args.shape c.args.node.now (Node-F.Items c.in-Items.items) c.args.number c.judge_array.result
    (ap out-Node c.in-Items.is ∙ out_items c.in-Items.items) c.judge_array.ensures

pub judge-returns-in-Members : goal.judge-returns-in-Members
judge-returns-in-Members t c =
    judged c.args.shape c.args.node.now (Node-F.Members c.in-Members.members) c.args.number c.judge_object.result
    (ap out-Node c.in-Members.is ∙ out_members c.in-Members.members) c.judge_object.ensures

pub judge_items-returns-in_err-next : goal.judge_items-returns-in_err-next
judge_items-returns-in_err-next t c =
    let p = err_from_is_err_and c.from_residual.result c.from_residual.ensures.1 in
    rw (p.1, p.2) (items_stop c.args.shape c.args.items.now c.as_slice-item-items.result.now c.loop-item.item-index
    c.item-item.result c.loop-item.next c.args.number c.as_slice-item-items.ensures c.loop-item-test.true
    c.item-item.is c.loop-item.invariant.goes c.in_err-next.field-0.0 c.in_err-next.ensures)

pub judge_items-loop-item-preserved : goal.judge_items-loop-item-preserved
judge_items-loop-item-preserved t c = record {
  goes =
      items_more c.args.shape c.args.items.now c.as_slice-item-items.result.now c.loop-item.item-index
      c.item-item.result c.loop-item.next c.args.number c.as_slice-item-items.ensures c.loop-item-test.true
      c.item-item.is c.loop-item.invariant.goes c.in_ok-next.next c.in_ok-next.ensures;
  room = omega (
    arith,
    c.loop-item.invariant.room,
    c.in_ok-next.ensures.1,
    sum_step node_count c.args.items.now c.as_slice-item-items.result.now c.loop-item.item-index c.item-item.result
        c.as_slice-item-items.ensures c.loop-item-test.true c.item-item.is,
  );
}

pub judge_items-returns : goal.judge_items-returns
judge_items-returns t c =
    goes_end (item_parts c.args.shape (drop c.loop-item.item-index c.args.items.now))
    (item_parts c.args.shape c.args.items.now) c.loop-item.next c.args.number
    (ap (item_parts c.args.shape) (drop_end c.args.items.now c.as_slice-item-items.result.now c.loop-item.item-index
    c.as_slice-item-items.ensures c.loop-item-test.false)) c.loop-item.invariant.goes

pub judge_members-judge-requires : goal.judge_members-judge-requires
judge_members-judge-requires t c =
    let ms = c.args.members.now in
    let m = c.member-item.result in
    let i = c.loop-member.member-index in
    let weight = weighed-Node-Members-0-at-2.weight Node the_size in
    let next = sum_step (λ (k : Member). node_count k.1) ms c.as_slice-member-items.result.now i m
    c.as_slice-member-items.ensures c.loop-member-test.true c.member-item.is in
    let small : c.loop-member.next + node_count m.1 < 2 ^ 64 =
    omega (arith, c.loop-member.invariant.room, c.requires, next) in
    let lighter = weight_within weight ms c.as_slice-member-items.result.now i m c.as_slice-member-items.ensures
    c.loop-member-test.true c.member-item.is in
    (omega (arith, lighter), small)

pub judge_members-returns-in_err-next : goal.judge_members-returns-in_err-next
judge_members-returns-in_err-next t c =
    let p = err_from_is_err_and c.from_residual.result c.from_residual.ensures.1 in
    rw (p.1, p.2) (members_stop (rule_of c.args.shape).member c.args.members.now c.as_slice-member-items.result.now
    c.loop-member.member-index c.member-item.result c.loop-member.next c.args.number c.as_slice-member-items.ensures
    c.loop-member-test.true c.member-item.is c.loop-member.invariant.goes c.in-Some.part c.in_err-next.field-0.0
    (sym (ap (rule_of c.args.shape).member c.as_str.ensures) ∙ sym c.member_shape.ensures ∙ c.in-Some.is)
    c.in_err-next.ensures)

pub judge_members-loop-member-preserved : goal.judge_members-loop-member-preserved
judge_members-loop-member-preserved t c = record {
  goes =
      members_more (rule_of c.args.shape).member c.args.members.now c.as_slice-member-items.result.now
      c.loop-member.member-index
      c.member-item.result c.loop-member.next c.args.number c.as_slice-member-items.ensures c.loop-member-test.true
      c.member-item.is c.loop-member.invariant.goes c.in-Some.part c.in_ok-next.next
      (sym (ap (rule_of c.args.shape).member c.as_str.ensures) ∙ sym c.member_shape.ensures ∙ c.in-Some.is)
      c.in_ok-next.ensures;
  room = omega (
    arith,
    c.loop-member.invariant.room,
    c.in_ok-next.ensures.1,
    sum_step (λ (k : Member). node_count k.1) c.args.members.now c.as_slice-member-items.result.now
        c.loop-member.member-index c.member-item.result c.as_slice-member-items.ensures c.loop-member-test.true
        c.member-item.is,
  );
}

pub judge_members-returns : goal.judge_members-returns
judge_members-returns t c =
    goes_end (member_parts (rule_of c.args.shape).member (drop c.loop-member.member-index c.args.members.now))
    (member_parts (rule_of c.args.shape).member c.args.members.now) c.loop-member.next c.args.number
    (ap (member_parts (rule_of c.args.shape).member) (drop_end c.args.members.now c.as_slice-member-items.result.now
    c.loop-member.member-index c.as_slice-member-items.ensures c.loop-member-test.false)) c.loop-member.invariant.goes

use Rattle.std.proofs.Common.{◌+◌, List, Some, ap, arith, drop, length, ltb-false, ltb-true, subst, subst₂, sym, ◌∙◌}
use Rattle.doc_model.specs.declared.node.Node.TheVariants as node
use Rattle.doc_model.specs.declared.query.Query.TheVariants as query
use Rattle.json_text.specs.Grammar.{Member}
use Rattle.cts_meaning.specs.Shapes.{form_named}
use Rattle.cts_meaning.specs.declared.form.QueryForm.TheVariants as form
use Rattle.cts_text.specs.Saids.{AreSaid, AreSaidAt, IsSaid, IsSaidAs, IsSaidBy}
use Rattle.cts_text.proofs.Said.{and_not_said, and_said, near_with, not_said, or_said}
use Rattle.cts_text.proofs.Steps.{said_end, said_more, SaysWith}
use Rattle.cts_text.proofs.Told.{array_said, object_said, ok_more, one_member, other_length_said, other_said, unnamed_said}
use Rattle.cts_text.proofs.+saying.Goals as goal
use Rattle.cts_text.proofs.+saying.Goals.{saying::query_in-in_default-via-then-as_slice-lt1, saying::query_in-in_default-via-else-as_slice-lt1+else-this-lt2}

pub saying::query_of-returns-in_default : goal.saying::query_of-returns-in_default
saying::query_of-returns-in_default t c = other_said c.args.node.now query.False c.in_default.not-Members

pub saying::query_in-returns-in_default : goal.saying::query_in-returns-in_default
saying::query_in-returns-in_default t c = other_length_said c.args.members.now query.False (λ one.
    let same = ap (λ (ms : List Member). length ms) c.as_slice.ensures in
    elim c.in_default.branch [
      | saying::query_in-in_default-via-then-as_slice-lt1 w ↦ omega (arith, one, same, ltb-true, ltb-false)
      | saying::query_in-in_default-via-else-as_slice-lt1+else-this-lt2 w ↦ omega (arith, one, same, ltb-true, ltb-false)
    ])

pub saying::query_in-returns-in-None : goal.saying::query_in-returns-in-None
saying::query_in-returns-in-None t c = unnamed_said c.args.members.now c.member-item.result query.False
    (one_member c.args.members.now c.as_slice.result.now c.member-item.result c.as_slice.ensures
    c.in-len1.len_at_least c.in-len1.len_below c.member-item.is)
    (sym (ap form_named c.as_str.ensures) ∙ sym c.form_named.ensures ∙ c.in-None.is)

pub saying::query_in-returns-in-Some : goal.saying::query_in-returns-in-Some
saying::query_in-returns-in-Some t c =
    let ms = c.args.members.now in
    let m = c.member-item.result in
    let one = one_member ms c.as_slice.result.now m c.as_slice.ensures c.in-len1.len_at_least c.in-len1.len_below
    c.member-item.is in
    let named = sym (ap form_named c.as_str.ensures) ∙ sym c.form_named.ensures ∙ c.in-Some.is in
    ok_more c.query_by.result (λ q. IsSaidBy c.in-Some.form m.1 q) (λ q. IsSaid (node.Members ms) q)
    (λ q by. object_said ms m c.in-Some.form q one named by) c.query_by.ensures

pub forms::and_or::and-returns : goal.forms::and_or::and-returns
forms::and_or::and-returns t c = and_said c.args.members.now c.in_ok-queries_in.field-0 c.in_ok-queries_in.ensures

pub forms::and_or::or-returns : goal.forms::and_or::or-returns
forms::and_or::or-returns t c = or_said c.args.members.now c.in_ok-queries_in.field-0 c.in_ok-queries_in.ensures

pub forms::not_query::query-returns : goal.forms::not_query::query-returns
forms::not_query::query-returns t c = subst (λ q. IsSaidAs form.Not c.args.members.now (query.Not q)) (sym c.in_ok-new.ensures)
    (not_said c.args.members.now c.in_ok-query.query c.in_ok-query.ensures)

pub forms::and_not::query-returns : goal.forms::and_not::query-returns
forms::and_not::query-returns t c =
    subst₂ (λ p n. IsSaidAs form.AndNot c.args.members.now (query.AndNot p n)) (sym c.in_ok-new.ensures)
    (sym c.in_ok-new-2.ensures)
    (and_not_said c.args.members.now c.in_ok-positive.positive c.in_ok-negative.negative c.in_ok-positive.ensures
    c.in_ok-negative.ensures)

pub forms::near::query-returns : goal.forms::near::query-returns
forms::near::query-returns t c = near_with c.args.members.now c.in_ok-queries.queries c.distance_in-distance.result
    c.has_option-ordered.result c.in_ok-queries.ensures c.distance_in-distance.ensures c.has_option-ordered.ensures

pub saying::queries_of-returns-in-Items : goal.saying::queries_of-returns-in-Items
saying::queries_of-returns-in-Items t c =
    let items = c.in-Items.items in
    ok_more c.each_query.result (λ qs. AreSaid items qs) (λ qs. AreSaidAt (Some c.args.node.now) qs)
    (λ qs are. array_said c.args.node.now items qs c.in-Items.is are) c.each_query.ensures

pub saying::each_query-loop-item-preserved : goal.saying::each_query-loop-item-preserved
saying::each_query-loop-item-preserved t c =
    let items = c.args.items.now in
    subst (λ qs. SaysWith (drop (c.loop-item.item-index + 1) items) qs items) (sym c.in_ok-push.ensures.ok)
    (said_more items c.as_slice-item-items.result.now c.loop-item.item-index c.item-item.result c.loop-item.queries
    c.in_ok-query_of.field-0 c.as_slice-item-items.ensures c.loop-item-test.true c.item-item.is c.loop-item.invariant
    c.in_ok-query_of.ensures)

pub saying::each_query-returns : goal.saying::each_query-returns
saying::each_query-returns t c = said_end c.args.items.now c.as_slice-item-items.result.now c.loop-item.item-index
    c.loop-item.queries c.as_slice-item-items.ensures c.loop-item-test.false c.loop-item.invariant

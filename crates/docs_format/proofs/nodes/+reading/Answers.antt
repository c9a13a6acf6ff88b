use Rattle.std.proofs.Common.{◌∙◌, ap, List, [], ℤ, inl, inr, Ok, ℕ, arith}
use Rattle.std.proofs.lemmas.Result.{err_from_is_err_and}
use Rattle.doc_model.specs.declared.node.Node.{Node}
use Rattle.doc_model.specs.declared.node.Node.TheVariants as node
use Rattle.byte_formats.specs.Format.{◌>>=◌, Read}
use Rattle.docs_format.specs.Reading.{items_at, list_at, member_at, members_at, node_at, number_at}
use Rattle.docs_format.specs.Reading.{text_at}
use Rattle.docs_format.proofs.Lists.{goes_on, stops, ends}
use Rattle.docs_format.proofs.Parts.{items_are, members_are, stops_same, stops_then, kind_stops, kind_null}
use Rattle.docs_format.proofs.Parts.{kind_false, kind_true, kind_number, kind_text, kind_items, kind_members}
use Rattle.docs_format.proofs.Parts.{kind_other, stops_deep}
use Rattle.docs_format.proofs.nodes.+reading.Goals as goal

pub items_at-returns-in_err-node_at : goal.items_at-returns-in_err-node_at
items_at-returns-in_err-node_at t c =
    let p = err_from_is_err_and c.from_residual-in_err-node_at.result c.from_residual-in_err-node_at.ensures.1 in
    rw (p.1, p.2)
    (stops_same c.in_err-node_at.field-0.0 _ (items_at (node_at c.args.depth) c.args.reader.now)
    (items_are (node_at c.args.depth) c.args.reader.now c.in_ok-count.count c.count.new.self c.in_ok-count.ensures)
    (stops_then c.in_err-node_at.field-0.0
    (list_at (λ before. node_at c.args.depth) [] c.in_ok-count.count c.count.new.self) _
    (stops c.in_err-node_at.field-0.0 (λ before. node_at c.args.depth) c.loop.items c.in_ok-count.count c.loop.counter
    c.loop.reader _ c.loop-test.true c.in_err-node_at.ensures c.loop.invariant)))

pub items_at-loop-preserved : goal.items_at-loop-preserved
items_at-loop-preserved t c =
    rw c.in_ok-push.ensures.ok
    (goes_on (λ before. node_at c.args.depth) c.loop.items c.in_ok-count.count c.loop.counter c.loop.reader
    c.in_ok-node_at.field-0 c.node_at.new.reader _ c.loop-test.true c.in_ok-node_at.ensures c.loop.invariant)

pub items_at-returns : goal.items_at-returns
items_at-returns t c =
    items_are (node_at c.args.depth) c.args.reader.now c.in_ok-count.count c.count.new.self c.in_ok-count.ensures
    ∙ ap (λ (r : Read (List Node)). r >>= λ items. Ok (node.Items items.0, items.1))
    (ends (λ before. node_at c.args.depth) c.loop.items c.in_ok-count.count c.loop.counter c.loop.reader _
    c.loop-test.false c.loop.invariant)

pub members_at-returns-in_err-member_at : goal.members_at-returns-in_err-member_at
members_at-returns-in_err-member_at t c =
    let p = err_from_is_err_and c.from_residual-in_err-member_at.result c.from_residual-in_err-member_at.ensures.1 in
    rw (p.1, p.2)
    (stops_same c.in_err-member_at.field-0.0 _ (members_at (node_at c.args.depth) c.args.reader.now)
    (members_are (node_at c.args.depth) c.args.reader.now c.in_ok-count.count c.count.new.self c.in_ok-count.ensures)
    (stops_then c.in_err-member_at.field-0.0
    (list_at (member_at (node_at c.args.depth)) [] c.in_ok-count.count c.count.new.self) _
    (stops c.in_err-member_at.field-0.0
    (member_at (node_at c.args.depth)) c.loop.members c.in_ok-count.count c.loop.counter c.loop.reader _
    c.loop-test.true
    (c.in_err-member_at.ensures.member c.loop.members c.loop.invariant.seen) c.loop.invariant.total)))

pub members_at-loop-preserved : goal.members_at-loop-preserved
members_at-loop-preserved t c = record {
  total =
      rw c.in_ok-push.ensures.ok
      (goes_on (member_at (node_at c.args.depth)) c.loop.members c.in_ok-count.count c.loop.counter c.loop.reader
      c.in_ok-member_at.field-0 c.member_at.new.reader _ c.loop-test.true
      (c.in_ok-member_at.ensures.member c.loop.members c.loop.invariant.seen) c.loop.invariant.total);
  seen = rw c.in_ok-push.ensures.ok (c.in_ok-member_at.ensures.noted c.loop.members c.loop.invariant.seen);
}

pub members_at-returns : goal.members_at-returns
members_at-returns t c =
    members_are (node_at c.args.depth) c.args.reader.now c.in_ok-count.count c.count.new.self c.in_ok-count.ensures
    ∙ ap (λ (r : Read (List (List ℕ × Node))). r >>= λ members. Ok (node.Members members.0, members.1))
    (ends (member_at (node_at c.args.depth)) c.loop.members c.in_ok-count.count c.loop.counter c.loop.reader _
    c.loop-test.false c.loop.invariant.total)

pub node_at-returns-in_err-kind : goal.node_at-returns-in_err-kind
node_at-returns-in_err-kind t c =
    let p = err_from_is_err_and c.from_residual.result c.from_residual.ensures.1 in
    rw (p.1, p.2) (kind_stops c.in_err-kind.field-0.0 c.args.depth c.args.reader.now c.in_err-kind.ensures)

pub node_at-returns-in_err-number-in-3 : goal.node_at-returns-in_err-number-in-3
node_at-returns-in_err-number-in-3 t c =
    let p =
    err_from_is_err_and c.from_residual-in_err-number-in-3.result c.from_residual-in_err-number-in-3.ensures.1 in
    rw (p.1, p.2)
    (stops_same c.in_err-number-in-3.field-0.0 _ (node_at c.args.depth c.args.reader.now)
    (kind_number c.args.reader.now c.in_ok-kind.field-0 c.kind.new.self c.in_ok-kind.ensures c.args.depth c.in-3.is)
    (stops_then c.in_err-number-in-3.field-0.0 (number_at c.kind.new.self) _ c.in_err-number-in-3.ensures))

pub node_at-returns-in_err-text-in-4 : goal.node_at-returns-in_err-text-in-4
node_at-returns-in_err-text-in-4 t c =
    let p = err_from_is_err_and c.from_residual-in_err-text-in-4.result c.from_residual-in_err-text-in-4.ensures.1 in
    rw (p.1, p.2)
    (stops_same c.in_err-text-in-4.field-0.0 _ (node_at c.args.depth c.args.reader.now)
    (kind_text c.args.reader.now c.in_ok-kind.field-0 c.kind.new.self c.in_ok-kind.ensures c.args.depth c.in-4.is)
    (stops_then c.in_err-text-in-4.field-0.0 (text_at c.kind.new.self) _ c.in_err-text-in-4.ensures))

pub node_at-returns-in-0 : goal.node_at-returns-in-0
node_at-returns-in-0 t c =
    kind_null c.args.reader.now c.in_ok-kind.field-0 c.kind.new.self c.in_ok-kind.ensures c.args.depth c.in-0.is

pub node_at-returns-in-1 : goal.node_at-returns-in-1
node_at-returns-in-1 t c =
    kind_false c.args.reader.now c.in_ok-kind.field-0 c.kind.new.self c.in_ok-kind.ensures c.args.depth c.in-1.is

pub node_at-returns-in-2 : goal.node_at-returns-in-2
node_at-returns-in-2 t c =
    kind_true c.args.reader.now c.in_ok-kind.field-0 c.kind.new.self c.in_ok-kind.ensures c.args.depth c.in-2.is

pub node_at-returns-in_ok-number-in-3 : goal.node_at-returns-in_ok-number-in-3
node_at-returns-in_ok-number-in-3 t c =
    kind_number c.args.reader.now c.in_ok-kind.field-0 c.kind.new.self c.in_ok-kind.ensures c.args.depth c.in-3.is
    ∙ ap (λ (r : Read ℤ). r >>= λ units. Ok (node.Num units.0, units.1)) c.in_ok-number-in-3.ensures

pub node_at-returns-in_ok-from_str-in-4 : goal.node_at-returns-in_ok-from_str-in-4
node_at-returns-in_ok-from_str-in-4 t c =
    rw c.in_ok-from_str-in-4.ensures
    (kind_text c.args.reader.now c.in_ok-kind.field-0 c.kind.new.self c.in_ok-kind.ensures c.args.depth c.in-4.is
    ∙ ap (λ (r : Read (List ℕ)). r >>= λ text. Ok (node.Text text.0, text.1)) c.in_ok-text-in-4.ensures)

pub node_at-returns-in_err-inside-in-5 : goal.node_at-returns-in_err-inside-in-5
node_at-returns-in_err-inside-in-5 t c =
    let q = c.from_residual-in_err-inside-in-5.ensures in
    let p = err_from_is_err_and c.from_residual-in_err-inside-in-5.result q.1 in
    rw (p.1, p.2)
    (stops_deep c.args.reader.now c.in_ok-kind.field-0 c.kind.new.self c.in_ok-kind.ensures
    c.in_err-inside-in-5.field-0.0 c.left-left.result c.args.depth (inl c.in-5.is) c.left-left.ensures
    c.in_err-inside-in-5.ensures.deep)

pub node_at-returns-in_err-inside-in-6 : goal.node_at-returns-in_err-inside-in-6
node_at-returns-in_err-inside-in-6 t c =
    let q = c.from_residual-in_err-inside-in-6.ensures in
    let p = err_from_is_err_and c.from_residual-in_err-inside-in-6.result q.1 in
    rw (p.1, p.2)
    (stops_deep c.args.reader.now c.in_ok-kind.field-0 c.kind.new.self c.in_ok-kind.ensures
    c.in_err-inside-in-6.field-0.0 c.left-left.result c.args.depth (inr c.in-6.is) c.left-left.ensures
    c.in_err-inside-in-6.ensures.deep)

pub node_at-returns-in_ok-inside-in-5 : goal.node_at-returns-in_ok-inside-in-5
node_at-returns-in_ok-inside-in-5 t c =
    rw (kind_items c.args.reader.now c.in_ok-kind.field-0 c.kind.new.self c.in_ok-kind.ensures c.args.depth
    c.in_ok-inside-in-5.field-0 c.in-5.is c.in_ok-inside-in-5.ensures.inner) c.items_at.ensures

pub node_at-returns-in_ok-inside-in-6 : goal.node_at-returns-in_ok-inside-in-6
node_at-returns-in_ok-inside-in-6 t c =
    rw (kind_members c.args.reader.now c.in_ok-kind.field-0 c.kind.new.self c.in_ok-kind.ensures c.args.depth
    c.in_ok-inside-in-6.field-0 c.in-6.is c.in_ok-inside-in-6.ensures.inner) c.members_at.ensures

pub node_at-returns-in-7-to-255 : goal.node_at-returns-in-7-to-255
node_at-returns-in-7-to-255 t c =
    rw c.left-left.ensures
    (kind_other c.args.reader.now c.in_ok-kind.field-0 c.kind.new.self c.in_ok-kind.ensures c.args.depth (omega arith))

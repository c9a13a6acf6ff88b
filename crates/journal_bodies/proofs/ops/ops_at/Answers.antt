use Rattle.std.proofs.Common.{◌≡◌, ◌≤◌, ◌∙◌, None, sym, arith}
use Rattle.std.proofs.lemmas.Result.{err_from_is_err_and}
use Rattle.docs_format.proofs.Lists.{goes_on, stops, ends}
use Rattle.docs_format.proofs.Parts.{stops_same}
use Rattle.doc_model.specs.Operations.{broken_ops_rule}
use Rattle.journal_bodies.specs.EntryReading.{op_at, ops_at}
use Rattle.journal_bodies.proofs.OpsKept.{ops_are, rules_kept, uris_kept}
use Rattle.journal_bodies.proofs.Truths.{is_true}
use Rattle.journal_bodies.proofs.ops.ops_at.Goals as goal

pub returns-in_err-op_at : goal.returns-in_err-op_at
returns-in_err-op_at c =
    let p = err_from_is_err_and c.from_residual-in_err-op_at.result c.from_residual-in_err-op_at.ensures.1 in
    let some : 1 ≤ c.in_ok-count.count = omega arith in
    rw (p.1, p.2)
    (stops_same c.in_err-op_at.field-0.0 _ (ops_at c.args.reader.now)
    (ops_are c.args.reader.now c.in_ok-count.count c.count.new.self c.in_ok-count.ensures some
    c.if-count-gt-MAX_OPERATIONS.false)
    (stops c.in_err-op_at.field-0.0 op_at c.loop.list.items c.in_ok-count.count c.loop.counter c.loop.reader _
    c.loop-test.true (c.in_err-op_at.ensures.op c.loop.list.items c.loop.invariant.met) c.loop.invariant.total))

pub loop-preserved : goal.loop-preserved
loop-preserved c = record {
  total =
      rw c.in_ok-push.ensures.items
      (goes_on op_at c.loop.list.items c.in_ok-count.count c.loop.counter c.loop.reader c.in_ok-op_at.field-0
      c.op_at.new.reader _ c.loop-test.true (c.in_ok-op_at.ensures.op c.loop.list.items c.loop.invariant.met)
      c.loop.invariant.total);
  met = rw c.in_ok-push.ensures.items (c.in_ok-op_at.ensures.noted c.loop.list.items c.loop.invariant.met);
}

pub new-requires : goal.new-requires
new-requires c =
    is_true _ (uris_kept c.in_ok-count.count c.count.new.self c.loop.list.items c.loop.reader
    (ends op_at c.loop.list.items c.in_ok-count.count c.loop.counter c.loop.reader _ c.loop-test.false
    c.loop.invariant.total))

pub unreachable-requires : goal.unreachable-requires
unreachable-requires c =
    let some : 1 ≤ c.in_ok-count.count = omega arith in
    let none : broken_ops_rule c.loop.list.items ≡ None =
    rules_kept c.in_ok-count.count c.count.new.self c.loop.list.items c.loop.reader
    (ends op_at c.loop.list.items c.in_ok-count.count c.loop.counter c.loop.reader _ c.loop-test.false
    c.loop.invariant.total) some c.if-count-gt-MAX_OPERATIONS.false in
    let both = sym none ∙ c.in-Err.ensures.refused in
    cc

pub returns : goal.returns
returns c =
    let some : 1 ≤ c.in_ok-count.count = omega arith in
    rw c.in-Ok.ensures.kept
    (ops_are c.args.reader.now c.in_ok-count.count c.count.new.self c.in_ok-count.ensures some
    c.if-count-gt-MAX_OPERATIONS.false
    ∙ ends op_at c.loop.list.items c.in_ok-count.count c.loop.counter c.loop.reader _ c.loop-test.false
    c.loop.invariant.total)

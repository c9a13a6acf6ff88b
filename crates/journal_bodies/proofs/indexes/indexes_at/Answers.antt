use Rattle.std.proofs.Common.{◌≡◌, ◌∙◌, true, false}
use Rattle.std.proofs.lemmas.Result.{err_from_is_err_and}
use Rattle.docs_format.proofs.Lists.{goes_on, stops, ends}
use Rattle.docs_format.proofs.Parts.{stops_same}
use Rattle.journal_bodies.specs.RootReading.{index_at, indexes_at}
use Rattle.journal_bodies.proofs.IndexReads.{indexes_kept}
use Rattle.journal_bodies.proofs.Loops.{indexes_are}
use Rattle.journal_bodies.proofs.Truths.{is_true}
use Rattle.journal_bodies.proofs.indexes.indexes_at.Goals as goal

pub returns-in_err-index_at : goal.returns-in_err-index_at
returns-in_err-index_at c =
    let p = err_from_is_err_and c.from_residual-in_err-index_at.result c.from_residual-in_err-index_at.ensures.1 in
    rw (p.1, p.2)
    (stops_same c.in_err-index_at.field-0.0 _ (indexes_at c.args.reader.now)
    (indexes_are c.args.reader.now c.in_ok-count.count c.count.new.self c.in_ok-count.ensures
    c.if-count-gt-MAX_INDEXES.false)
    (stops c.in_err-index_at.field-0.0 index_at c.loop.list.items c.in_ok-count.count c.loop.counter c.loop.reader _
    c.loop-test.true (rw c.as_slice.ensures.value at c.in_err-index_at.ensures) c.loop.invariant))

pub loop-preserved : goal.loop-preserved
loop-preserved c =
    rw c.in_ok-push.ensures.items
    (goes_on index_at c.loop.list.items c.in_ok-count.count c.loop.counter c.loop.reader c.in_ok-index_at.field-0
    c.index_at.new.reader _ c.loop-test.true (rw c.as_slice.ensures.value at c.in_ok-index_at.ensures) c.loop.invariant)

pub unreachable-requires : goal.unreachable-requires
unreachable-requires c =
    let read =
    ends index_at c.loop.list.items c.in_ok-count.count c.loop.counter c.loop.reader _ c.loop-test.false
    c.loop.invariant in
    let none : false ≡ true =
    c.in-None.ensures.some.1
    (is_true _ (indexes_kept c.in_ok-count.count c.count.new.self c.loop.list.items c.loop.reader
    c.if-count-gt-MAX_INDEXES.false read)) in
    cc

pub returns : goal.returns
returns c =
    rw c.in-Some.ensures.kept
    (indexes_are c.args.reader.now c.in_ok-count.count c.count.new.self c.in_ok-count.ensures
    c.if-count-gt-MAX_INDEXES.false
    ∙ ends index_at c.loop.list.items c.in_ok-count.count c.loop.counter c.loop.reader _ c.loop-test.false
    c.loop.invariant)

use Rattle.std.proofs.Common.{sym, ◌∙◌, rules}
use Rattle.std.proofs.lemmas.Result.{err_from_is_err_and}
use Rattle.docs_format.specs.Reading.{collection_at, collections_at, last_of}
use Rattle.docs_format.proofs.Lists.{goes_on, stops, ends}
use Rattle.docs_format.proofs.Parts.{collections_are, stops_same, last_of-push}
use Rattle.docs_format.proofs.collections.collections_at.Goals as goal

pub collection_at-requires-text-last : goal.collection_at-requires-text-last
collection_at-requires-text-last c = λ _. c.loop.invariant.text

pub returns-in_err-last : goal.returns-in_err-last
returns-in_err-last c =
    let p = err_from_is_err_and c.from_residual-in_err-last.result c.from_residual-in_err-last.ensures.1 in
    rw (p.1, p.2)
    (stops_same c.in_err-last.field-0.0 _ (collections_at c.args.reader.now)
    (collections_are c.args.reader.now c.in_ok-count.count c.count.new.self c.in_ok-count.ensures
    c.if-count-gt-MAX_COLLECTIONS.false)
    (stops c.in_err-last.field-0.0 (λ before. collection_at
    (last_of before)) c.loop.collections c.in_ok-count.count c.loop.counter c.loop.reader _ c.loop-test.true (rw
    (← c.loop.invariant.last) c.in_err-last.ensures) c.loop.invariant.total))

pub loop-preserved : goal.loop-preserved
loop-preserved c = record {
  total =
      rw (c.in_ok-push.ensures.ok, c.in_ok-from_str.ensures)
      (goes_on (λ before. collection_at (last_of before)) c.loop.collections c.in_ok-count.count c.loop.counter
      c.loop.reader c.in_ok-last.last.now c.collection_at.new.reader _ c.loop-test.true
      (rw (← c.loop.invariant.last) c.in_ok-last.ensures) c.loop.invariant.total);
  last =
      rw (c.in_ok-push.ensures.ok, c.in_ok-from_str.ensures)
      (sym (last_of-push c.loop.collections c.in_ok-last.last.now));
  text = search rules;
}

pub returns : goal.returns
returns c =
    collections_are c.args.reader.now c.in_ok-count.count c.count.new.self c.in_ok-count.ensures
    c.if-count-gt-MAX_COLLECTIONS.false
    ∙ ends
    (λ before. collection_at (last_of before)) c.loop.collections c.in_ok-count.count c.loop.counter c.loop.reader _
    c.loop-test.false c.loop.invariant.total

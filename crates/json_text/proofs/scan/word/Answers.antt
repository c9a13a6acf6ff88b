use Rattle.std.proofs.lemmas.Result.{err_from_is_err_and}
use Rattle.json_text.proofs.Words.{word_goes, word_fails, word_ends}
use Rattle.json_text.proofs.scan.word.Goals as goal

pub returns-in_err-rest : goal.returns-in_err-rest
returns-in_err-rest c =
    let p = err_from_is_err_and c.from_residual.result c.from_residual.ensures.1 in
    rw (p.1, p.2) (word_fails c.args.wanted.now c.loop-b.b-index c.loop-b.rest.now _ c.in_err-rest.field-0.0
    c.loop-b-test.true c.in_err-rest.ensures c.loop-b.invariant)

pub loop-b-preserved : goal.loop-b-preserved
loop-b-preserved c = word_goes c.args.wanted.now c.loop-b.b-index c.loop-b.rest.now c.in_ok-rest.rest.now _
    c.loop-b-test.true c.in_ok-rest.ensures c.loop-b.invariant

pub returns : goal.returns
returns c = word_ends c.args.wanted.now c.loop-b.b-index c.loop-b.rest.now _ c.loop-b-test.false c.loop-b.invariant

use Rattle.json_text.proofs.Words.{run_ok}
use Rattle.json_text.proofs.string.run.Goals as goal

pub returns-in-Ok : goal.returns-in-Ok
returns-in-Ok c = run_ok c.args.bytes.now c.plain_len.result c.in-Ok.text.now c.split_at.result.0.now
    c.split_at.result.1.now c.plain_len.ensures.value c.split_at.ensures.front c.split_at.ensures.back
    c.in-Ok.ensures.cases.0 c.in-Ok.ensures.cases.1

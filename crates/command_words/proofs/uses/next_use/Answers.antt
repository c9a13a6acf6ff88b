use Rattle.command_words.proofs.UseLemmas.{plain_first}
use Rattle.command_words.proofs.uses.next_use.Goals as goal

pub returns-then-has_no_dash : goal.returns-then-has_no_dash
returns-then-has_no_dash c =
    plain_first c.args.words.now c.word-item.result c.deref-then-has_no_dash.result c.deref.result.now
    c.in-len1-up.len_at_least c.word-item.is c.deref-then-has_no_dash.ensures c.deref.ensures
    (c.has_no_dash.ensures.0 c.if-has_no_dash.true)

use Rattle.json_text.proofs.Words.{pair_is}
use Rattle.json_text.proofs.escape.pair.Goals as goal

pub returns : goal.returns
returns c = pair_is c.from_u32.result c.args.high c.args.low c.from.result c.from-2.result c.from.ensures
    c.from-2.ensures c.from_u32.ensures.value c.requires.high c.requires.low

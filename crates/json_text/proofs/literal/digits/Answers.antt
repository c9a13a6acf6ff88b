use Rattle.json_text.specs.Numbers.{is_digit}
use Rattle.json_text.proofs.Prefix.{prefix_passes}
use Rattle.json_text.proofs.literal.digits.Goals as goal

pub returns-clause-digits : goal.returns-clause-digits
returns-clause-digits c = prefix_passes is_digit c.args.bytes.now c.split_at.result.0.now c.digits_len-n.result
    c.digits_len-n.ensures.value c.split_at.ensures.front

use Rattle.std.proofs.Common.{arith, rules, ◌<◌, length}
use Rattle.std.proofs.lemmas.Str.Pattern.{contains_char}
use Rattle.client_lines.proofs.FindLemmas.{word_told}
use Rattle.client_lines.proofs.form.is_word.Goals as goal

pub returns-then-not-is_empty : goal.returns-then-not-is_empty
returns-then-not-is_empty c =
    let found = contains_char 0x20 c.args.text.now c.contains.result c.contains.ensures.cases (omega arith) in
    let some : 0 < length c.args.text.now = first_of (search rules, grind arith) in
    word_told c.args.text.now c.contains.result some found.0 found.1

use Rattle.client_lines.proofs.FindLemmas.{no_word_behind}
use Rattle.client_lines.proofs.form.word_behind.Goals as goal

pub returns-else-is_word : goal.returns-else-is_word
returns-else-is_word c =
    no_word_behind c.args.line.now c.args.head.now c.in_ok-text.text.now c.is_word.result c.in_ok-text.ensures
    c.is_word.ensures.1 c.if-is_word.false

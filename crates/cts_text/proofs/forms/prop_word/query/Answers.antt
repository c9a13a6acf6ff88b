use Rattle.cts_text.proofs.Said.{prop_word_with}
use Rattle.cts_text.proofs.forms.prop_word.query.Goals as goal

pub returns : goal.returns
returns c = prop_word_with c.args.members.now c.in_ok-names.names c.in_ok-texts.texts c.case_in-case.result
    c.in_ok-names.ensures c.in_ok-texts.ensures c.case_in-case.ensures

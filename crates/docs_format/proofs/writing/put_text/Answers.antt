use Rattle.docs_format.proofs.Keeping.{is_text}
use Rattle.docs_format.proofs.writing.put_text.Goals as goal

pub returns-in_err-put_count-clause-utf8 : goal.returns-in_err-put_count-clause-utf8
returns-in_err-put_count-clause-utf8 c = rw (← c.as_str.ensures) (is_text c.as_str.result.now c.as_str.utf8)

pub returns-clause-utf8 : goal.returns-clause-utf8
returns-clause-utf8 c = rw (← c.as_str.ensures) (is_text c.as_str.result.now c.as_str.utf8)

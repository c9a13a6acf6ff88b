use Rattle.json_text.proofs.Words.{all_text}
use Rattle.json_text.proofs.scan.unexpected.Goals as goal

pub returns-in_default-2 : goal.returns-in_default-2
returns-in_default-2 c = let h = rw c.in_default.is at c.from_utf8.ensures.cases in all_text c.args.bytes.now h.1

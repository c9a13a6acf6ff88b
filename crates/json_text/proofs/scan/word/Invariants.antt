use Rattle.std.proofs.Common.{◌≡◌, drop}
use Rattle.json_text.specs.Reading.{word_at}
use Rattle.json_text.proofs.scan.word.Given as goal

abbrev pub invariant-loop-b : goal.invariant-loop-b
invariant-loop-b l = word_at (drop l.b-index l.wanted) l.rest ≡ word_at l.wanted l.bytes

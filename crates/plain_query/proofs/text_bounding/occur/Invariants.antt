use Rattle.std.proofs.Common.{◌≡◌, false, take}
use Rattle.doc_meaning.specs.Estimates.{occur}
use Rattle.plain_query.proofs.text_bounding.occur.Given as goal

abbrev pub invariant-loop-string : goal.invariant-loop-string
invariant-loop-string l = occur (take l.string-index l.found) l.any_case l.words ≡ false

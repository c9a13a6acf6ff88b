use Rattle.std.proofs.Common.{◌≡◌, map, take}
use Rattle.doc_meaning.specs.Estimates.{text_bounds}
use Rattle.doc_meaning.specs.Strings.{strings}
use Rattle.plain_query.proofs.bounding.word_query_bounds.Given as goal

abbrev pub invariant-loop-text : goal.invariant-loop-text
invariant-loop-text l = l.out ≡ map (text_bounds (strings l.document.root) l.case) (take l.text-index l.texts)

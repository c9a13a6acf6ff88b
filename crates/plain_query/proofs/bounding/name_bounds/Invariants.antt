use Rattle.std.proofs.Common.{◌≡◌, map, take}
use Rattle.doc_meaning.specs.Estimates.{prop_text_bounds}
use Rattle.plain_query.proofs.bounding.name_bounds.Given as goal

abbrev pub invariant-loop-text : goal.invariant-loop-text
invariant-loop-text l = l.out ≡ map (λ text. prop_text_bounds l.found l.case text l.name) (take l.text-index l.texts)

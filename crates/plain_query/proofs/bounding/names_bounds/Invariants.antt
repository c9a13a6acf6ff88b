use Rattle.std.proofs.Common.{◌≡◌, map, take}
use Rattle.plain_query.specs.PropertyTexts.{name_bounds}
use Rattle.plain_query.proofs.bounding.names_bounds.Given as goal

abbrev pub invariant-loop-name : goal.invariant-loop-name
invariant-loop-name l = l.out ≡ map (name_bounds l.found l.case l.texts) (take l.name-index l.names)

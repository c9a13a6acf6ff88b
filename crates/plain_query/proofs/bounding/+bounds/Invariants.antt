use Rattle.std.proofs.Common.{◌≡◌, take, map}
use Rattle.doc_meaning.specs.Estimates.{bounds}
use Rattle.plain_query.proofs.bounding.+bounds.Given as goal

abbrev pub invariant-bounds_of-loop-query : goal.invariant-bounds_of-loop-query
invariant-bounds_of-loop-query l = l.out ≡ map (bounds l.document) (take l.query-index l.queries)

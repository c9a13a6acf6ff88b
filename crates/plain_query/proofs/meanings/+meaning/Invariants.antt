use Rattle.std.proofs.Common.{◌≡◌, take, map}
use Rattle.doc_meaning.specs.Meaning.{meaning}
use Rattle.plain_query.proofs.meanings.+meaning.Given as goal

abbrev pub invariant-meanings-loop-query : goal.invariant-meanings-loop-query
invariant-meanings-loop-query l = l.out ≡ map (meaning l.document) (take l.query-index l.queries)

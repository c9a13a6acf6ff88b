use Rattle.std.proofs.Common.{◌≡◌, map, filter, take, Some}
use Rattle.doc_meaning.specs.Strings.{is_named}
use Rattle.plain_query.proofs.leaves.owned_scalars.Given as goal

abbrev pub invariant-loop-scalar : goal.invariant-loop-scalar
invariant-loop-scalar l =
    l.out ≡ map (λ s. s.1) (filter (λ s. is_named (Some l.names) s.0) (take l.scalar-index l.found))

use Rattle.std.proofs.Common.{◌≡◌, drop}
use Rattle.std.specs.Prelude.{codes}
use Rattle.cts_meaning.specs.Saying.{value_of}
use Rattle.cts_text.proofs.Steps.{SaysWith}
use Rattle.cts_text.proofs.+saying.Given as goal

abbrev pub invariant-saying::child-loop-member : goal.invariant-saying::child-loop-member
invariant-saying::child-loop-member l =
    value_of l.name (drop l.member-index l.members) ≡ value_of l.name l.members

abbrev pub invariant-saying::queries_in-loop-member : goal.invariant-saying::queries_in-loop-member
invariant-saying::queries_in-loop-member l =
    value_of (codes "queries") (drop l.member-index l.members) ≡ value_of (codes "queries") l.members

abbrev pub invariant-saying::each_query-loop-item : goal.invariant-saying::each_query-loop-item
invariant-saying::each_query-loop-item l = SaysWith (drop l.item-index l.items) l.queries l.items

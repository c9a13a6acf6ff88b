use Rattle.std.proofs.Common.{◌≡◌, drop, map}
use Rattle.doc_model.specs.Tree.{is_distinct}
use Rattle.doc_model.proofs.NamesLemmas.{are_fresh, has_name}
use Rattle.doc_model.proofs.names.are_many_distinct.Given as goal

abbrev pub invariant-loop-member : goal.invariant-loop-member
invariant-loop-member l = are_fresh (has_name l.seen) (map (λ m. m.0) (drop l.member-index l.members)) ≡ is_distinct
    (map (λ m. m.0) l.members)

use Rattle.std.proofs.Common.{◌≡◌, drop, map}
use Rattle.doc_model.specs.Tree.{is_distinct}
use Rattle.doc_model.proofs.names.are_few_distinct.Given as goal

abbrev pub invariant-loop-i : goal.invariant-loop-i
invariant-loop-i l = is_distinct (map (λ m. m.0) (drop l.i l.members)) ≡ is_distinct
    (map (λ m. m.0) l.members)

use Rattle.std.proofs.Common.{◌≡◌, drop, map}
use Rattle.doc_model.specs.Tree.{is_among}
use Rattle.cts_text.proofs.values.has_member.Given as goal

abbrev pub invariant-loop-member : goal.invariant-loop-member
invariant-loop-member l =
    is_among (map (λ m. m.0) (drop l.member-index l.members)) l.name ≡ is_among (map (λ m. m.0) l.members) l.name

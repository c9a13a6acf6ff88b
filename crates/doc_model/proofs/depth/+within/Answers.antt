use Rattle.std.proofs.Common.{arith, ap, ◌∙◌}
use Rattle.doc_model.specs.Tree.{depth}
use Rattle.doc_model.proofs.DepthLemmas.{depth_members}
use Rattle.doc_model.proofs.depth.+within.Goals as goal

pub is_within-returns-then-limit-gt0-2 : goal.is_within-returns-then-limit-gt0-2
is_within-returns-then-limit-gt0-2 t c =
    let deep = ap depth c.in-Members.is ∙ depth_members c.in-Members.members in
    (λ h. omega (arith, deep, c.members_within.ensures.0 h), λ h. c.members_within.ensures.1 (omega (arith, deep)))

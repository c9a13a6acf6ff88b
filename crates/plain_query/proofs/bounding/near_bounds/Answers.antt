use Rattle.std.proofs.Common.{◌≡◌, ◌≤◌, List, [], ◌∷◌, length, refl, ap, ◌∙◌, arith}
use Rattle.std.specs.List.{list_all}
use Rattle.doc_meaning.specs.declared.bounds.Bounds.{Bounds}
use Rattle.doc_meaning.specs.Estimates.{near_bounds, only_maybe}
use Rattle.plain_query.proofs.bounding.near_bounds.Goals as goal

many_near : (all : List Bounds) → 2 ≤ length all → only_maybe (list_all (λ b. b.maybe) all) ≡ near_bounds all
many_near [] h = absurd (omega arith)
many_near (b ∷ []) h = absurd (omega arith)
many_near (b ∷ c ∷ all) h = refl

pub returns-in_default : goal.returns-in_default
returns-in_default c = c.only_maybe.ensures ∙ ap only_maybe c.all_maybe.ensures
    ∙ many_near c.args.all.now c.in_default.len_at_least

use Rattle.std.proofs.Common.{ap, sym, not, ◌∙◌, false, true, ◌&&◌}
use Rattle.std.specs.List.{list_all}
use Rattle.doc_model.specs.Queries.{fits}
use Rattle.doc_model.proofs.QueryFolds.{fits_or, fits_and, fits_near}
use Rattle.doc_model.proofs.checks.near.+near.Goals as goal

pub fits-returns-in-Or : goal.fits-returns-in-Or
fits-returns-in-Or t c =
    c.all_fit.ensures ∙ sym (ap (λ q. fits q c.args.in_near) c.in-Or.is ∙ fits_or c.in-Or.queries c.args.in_near)

pub fits-returns-then-not-in_near : goal.fits-returns-then-not-in_near
fits-returns-then-not-in_near t c =
    c.all_fit-then-not-in_near.ensures
    ∙ sym (ap (λ b. not b && list_all (λ q. fits q true) c.in-Near.queries) c.if-not-in_near.true)
    ∙ sym (ap (λ q. fits q c.args.in_near) c.in-Near.is ∙ fits_near c.in-Near.queries c.in-Near.distance
    c.in-Near.ordered c.args.in_near)

pub fits-returns-then-not-in_near-2 : goal.fits-returns-then-not-in_near-2
fits-returns-then-not-in_near-2 t c =
    c.all_fit-then-not-in_near-2.ensures
    ∙ sym (ap (λ b. not b && list_all (λ q. fits q false) c.in-And.queries) c.if-not-in_near-2.true)
    ∙ sym (ap (λ q. fits q c.args.in_near) c.in-And.is ∙ fits_and c.in-And.queries c.args.in_near)

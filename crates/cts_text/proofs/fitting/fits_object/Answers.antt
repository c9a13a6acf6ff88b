use Rattle.std.proofs.Common.{◌&&◌, List, ap, is_some, sym, ◌∙◌}
use Rattle.std.specs.List.{list_all}
use Rattle.json_text.specs.Grammar.{Member}
use Rattle.cts_meaning.specs.Shapes.{rule_of}
use Rattle.cts_text.proofs.fitting.fits_object.Goals as goal

pub returns-then-has_members : goal.returns-then-has_members
returns-then-has_members c =
    c.are_known.ensures
    ∙ ap (λ (ms : List Member). list_all (λ m. is_some ((rule_of c.args.shape).member m.0)) ms) c.as_slice.ensures
    ∙ ap (λ b. b && list_all (λ m. is_some ((rule_of c.args.shape).member m.0)) c.args.members.now)
    (sym c.if-has_members.true ∙ c.has_members.ensures)

use Rattle.std.proofs.Common.{◌≡◌, sym, ◌∙◌}
use Rattle.std.proofs.lemmas.Bool.{false≢true}
use Rattle.command_words.specs.Asked.{range_text}
use Rattle.command_words.proofs.RangeLemmas.{named_by, no_name}
use Rattle.command_words.proofs.ranges.range_of.Goals as goal
use Rattle.command_words.proofs.ranges.range_of.Goals.{in-Some, in_default+in_ok-strip_end}

pub returns-then-not-is_name : goal.returns-then-not-is_name
returns-then-not-is_name c =
    let written : c.args.word.now ≡ range_text (c.match-strip_end.kind.0.now, c.match-strip_end.kind.1) =
    elim c.match-strip_end.branch [
      | in-Some w ↦ named_by c.args.word.now c.match-strip_end.kind _ w.kind-is w.in-Some.ensures
      | in_default+in_ok-strip_end w ↦
          named_by c.args.word.now c.match-strip_end.kind _ w.kind-is w.in_ok-strip_end.ensures
    ] in
    no_name c.args.word.now c.match-strip_end.kind.0.now c.match-strip_end.kind.1 written
    (λ good. false≢true (sym c.if-not-is_name.true ∙ c.is_name.ensures.1 good))

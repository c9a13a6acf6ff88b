-- How a session with any service ended.
use Rattle.std.proofs.Common.{ℕ, Bool, List, sym, ◌∙◌}
use Rattle.std.proofs.lemmas.List.{length-map}
use Rattle.client_run.specs.Sessions as s
use Rattle.engine_session.specs.Ended.{HasEnded}
use Rattle.transcript.specs.Transcript.{text_of_answer}
use Rattle.transcript.specs.declared.session_end.SessionEnd.{SessionEnd}

pub has_ended : {S : Type 0} (answers : s.Relation S) (first final : S) (input output : List ℕ) (how : SessionEnd)
    (over : Bool) → s.Serves answers first final input output how over → HasEnded input output over how
has_ended answers first final input output how over is = record {
  lines = s.lines_of is.exchanges;
  behind = is.behind;
  texts = s.texts_of is.exchanges;
  each = length-map is.exchanges (λ (e : s.Exchange). text_of_answer e.answer)
      ∙ sym (length-map is.exchanges (λ (e : s.Exchange). e.line));
  begins = is.lines;
  is_over = is.is_over;
  ends = is.ends;
}

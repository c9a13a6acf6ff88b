-- How a session ended, whatever the replies to its lines.
use Rattle.std.specs.Prelude.{ℕ, ◌≡◌, Bool, List, length}
use Rattle.transcript.specs.Lines.{Line, BeginsWithLines}
use Rattle.transcript.specs.Transcript.{Ends, IsOver}
use Rattle.transcript.specs.declared.session_end.SessionEnd.{SessionEnd}

-- lines with which the input begins were served, each with one text, which may be empty; the session ended so after
-- them, and the output is their texts as far as that end says
pub record HasEnded (input output : List ℕ) (over : Bool) (how : SessionEnd) : Type 0 where
  pub lines : List Line
  pub behind : List ℕ
  pub texts : List (List ℕ)
  pub each : length texts ≡ length lines
  pub begins : BeginsWithLines input lines behind
  pub is_over : IsOver how lines over
  pub ends : Ends how lines behind texts output

-- What a session does with any service.
use Rattle.std.specs.Prelude.{ℕ, ◌≡◌, ◌≢◌, ◌⊎◌, Bool, List, [], ◌∷◌, map, Option, Some, None}
use Rattle.transcript.specs.Commands.{Asks}
use Rattle.transcript.specs.Lines.{Line, content, BeginsWithLines}
use Rattle.transcript.specs.Refusals.{Refuses, IsLater}
use Rattle.transcript.specs.Transcript.{Ends, IsOver, text_of_answer}
use Rattle.transcript.specs.declared.command.Command.{Command}
use Rattle.transcript.specs.declared.command.Command.TheVariants.{Quit}
use Rattle.transcript.specs.declared.reply.Reply.{Reply}
use Rattle.transcript.specs.declared.reply.Reply.TheVariants as reply
use Rattle.transcript.specs.declared.session_end.SessionEnd.{SessionEnd}

-- the service before a command, the command, the reply, and the service behind it
abbrev pub Relation : Type 0 → Type 1
Relation S = S → Command → Reply → S → Type 0

-- how a line is answered: an empty one isn't; `quit` is without the service, and so is a line that is refused or comes
-- later; all else is asked of the service, unless memory is wanting before: `quit` never lacks it
abbrev pub AnswersLine : {S : Type 0} → Relation S → S → List ℕ → Option Reply → S → Type 0
AnswersLine answers old [] answer new = (answer ≡ None) × (new ≡ old)
AnswersLine answers old line None new = ⊥
AnswersLine answers old line (Some answer) new =
    ((asked : Command) × Asks line asked × (asked ≢ Quit) × answers old asked answer new)
    ⊎ (Asks line Quit × (answer ≡ reply.Bye) × (new ≡ old))
    ⊎ ((Refuses line answer ⊎ IsLater line answer) × (new ≡ old))
    ⊎ ((answer ≡ reply.Memory) × (Asks line Quit → ⊥) × (new ≡ old))

-- a line that was served, and its reply
pub record Exchange : Type 0 where
  pub line : Line
  pub answer : Option Reply

-- the lines are answered in turn
abbrev pub AnswersLines : {S : Type 0} → Relation S → S → List Exchange → S → Type 0
AnswersLines answers old [] new = new ≡ old
AnswersLines {S} answers old (first ∷ others) new =
    (mid : S) × AnswersLine answers old (content first.line) first.answer mid × AnswersLines answers mid others new

abbrev pub lines_of : List Exchange → List Line
lines_of exchanges = map (λ e. e.line) exchanges

abbrev pub texts_of : List Exchange → List (List ℕ)
texts_of exchanges = map (λ e. text_of_answer e.answer) exchanges

-- a session with a service that goes from old to new: it serves lines with which its input begins, and its output is
-- the texts of their replies, as far as its end says; `over` says that the source told its end
pub record Serves {S : Type 0} (answers : Relation S) (old new : S) (input output : List ℕ) (how : SessionEnd)
    (over : Bool) : Type 0 where
  pub exchanges : List Exchange
  pub behind : List ℕ
  pub lines : BeginsWithLines input (lines_of exchanges) behind
  pub is_over : IsOver how (lines_of exchanges) over
  pub replies : AnswersLines answers old exchanges new
  pub ends : Ends how (lines_of exchanges) behind (texts_of exchanges) output

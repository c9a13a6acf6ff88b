-- A session line by line.
use Rattle.std.specs.Prelude.{ℕ, ◌≡◌, ◌≢◌, ◌<◌, ◌+◌, ◌⊎◌, Bool, IsTrue, List, [], ◌++◌, length, All, Option, Result, Ok, Err}
use Rattle.std.specs.List.{flat_map}
use Rattle.std.specs.Io.KnownBytes.{Consumes, Appends, IsAtEnd}
use Rattle.client_run.specs.Closing.{Moves, Tears}
use Rattle.client_run.specs.Reading.{ReaderState, Finds}
use Rattle.client_run.specs.Sessions.{Relation, AnswersLine, AnswersLines, Exchange, lines_of, texts_of, Serves}
use Rattle.client_run.specs.declared.find.Find.{Find}
use Rattle.client_run.specs.declared.find.Find.TheVariants.{More}
use Rattle.transcript.specs.Commands.{Asks}
use Rattle.transcript.specs.Lines.{Line, ended, last, with_feed, IsLine}
use Rattle.transcript.specs.Transcript.{AsksQuit, text_of_answer, together, most_waiting}
use Rattle.transcript.specs.declared.command.Command.TheVariants.{Quit}
use Rattle.transcript.specs.declared.reply.Reply.{Reply}
use Rattle.transcript.specs.declared.session_end.SessionEnd.{SessionEnd}
use Rattle.transcript.specs.declared.session_end.SessionEnd.TheVariants as end
use Rattle.transcript.specs.declared.limits.TheConstants.{MAX_LINES}

-- the next line was found, or a fault ends the session: before a read all was sent, and more bytes were wanted
abbrev pub FindsNext : Result Find SessionEnd → ReaderState → List ℕ → List ℕ → Option (List ℕ) → Option (List ℕ) → Type 0
FindsNext (Ok found) held waits waits' written written' =
    Finds held found × (found ≢ More) × Moves waits waits' written written' []
FindsNext (Err end.ReadFault) held waits waits' written written' =
    Finds held More × (waits' ≡ []) × Moves waits waits' written written' []
FindsNext (Err end.WriteFault) held waits waits' written written' = Tears waits written written' []
FindsNext (Err end.Quit) held waits waits' written written' = ⊥
FindsNext (Err end.End) held waits waits' written written' = ⊥
FindsNext (Err end.Long) held waits waits' written written' = ⊥
FindsNext (Err end.Memory) held waits waits' written written' = ⊥

-- a line was answered: the session goes on, or the line asked to quit, or a write fault ends it
abbrev pub AnswersOne : {S : Type 0} → Relation S → S → S → List ℕ → Result (Unit {0}) SessionEnd → List ℕ → List ℕ →
    Option (List ℕ) → Option (List ℕ) → Type 0
AnswersOne answers old new line (Ok done) waits waits' written written' =
    (answer : Option Reply) × AnswersLine answers old line answer new ×
    Moves waits waits' written written' (text_of_answer answer) × (Asks line Quit → ⊥)
AnswersOne answers old new line (Err end.Quit) waits waits' written written' =
    (answer : Option Reply) × AnswersLine answers old line answer new ×
    Appends written written' (waits ++ text_of_answer answer) × Asks line Quit
AnswersOne answers old new line (Err end.WriteFault) waits waits' written written' =
    (answer : Option Reply) × AnswersLine answers old line answer new ×
    Tears waits written written' (text_of_answer answer) × ((Asks line Quit → ⊥) ⊎ Asks line Quit)
AnswersOne answers old new line (Err end.End) waits waits' written written' = ⊥
AnswersOne answers old new line (Err end.Long) waits waits' written written' = ⊥
AnswersOne answers old new line (Err end.ReadFault) waits waits' written written' = ⊥
AnswersOne answers old new line (Err end.Memory) waits waits' written written' = ⊥

-- where a session begins: its service, what its source has and what its sink was given
pub record Start (S : Type 0) : Type 0 where
  pub service : S
  pub left : Option (List ℕ)
  pub written : Option (List ℕ)

-- a session between two lines: also what waits to be sent, and what the reader holds
pub record Point (S : Type 0) : Type 0 where
  pub service : S
  pub left : Option (List ℕ)
  pub written : Option (List ℕ)
  pub waits : List ℕ
  pub held : ReaderState

abbrev pub start : {S : Type 0} → S → Option (List ℕ) → Option (List ℕ) → Start S
start service left written = record { service = service; left = left; written = written }

abbrev pub point : {S : Type 0} → S → Option (List ℕ) → Option (List ℕ) → List ℕ → ReaderState → Point S
point service left written waits held = record { service = service; left = left; written = written; waits = waits; held = held }

abbrev pub IsEnded : Line → Type 0
IsEnded (ended bytes) = Unit {0}
IsEnded (last bytes) = ⊥

-- a line behind which a session goes on
pub record Stays (line : Line) : Type 0 where
  pub ended : IsEnded line
  pub is_line : IsLine line
  pub stays : AsksQuit line → ⊥

-- so many lines were answered, and the texts of their replies were sent or wait, and one byte more has room
pub record SoFar {S : Type 0} (answers : Relation S) (first : Start S) (now : Point S) (count : ℕ) : Type 0 where
  pub exchanges : List Exchange
  pub input : List ℕ
  pub output : List ℕ
  pub came : Consumes first.left now.left input
  pub went : Appends first.written now.written output
  pub sent : output ++ now.waits ≡ together (texts_of exchanges)
  pub room : length now.waits < most_waiting
  pub spelled : input ≡ flat_map with_feed (lines_of exchanges) ++ now.held.pending
  pub stay : All Stays (lines_of exchanges)
  pub replies : AnswersLines answers first.service exchanges now.service
  pub counted : length exchanges ≡ count
  pub at_end : IsTrue now.held.over → IsAtEnd now.left

-- a whole session, and whether its source told its end
pub record WholeSession {S : Type 0} (answers : Relation S) (first : Start S) (now : Point S) (how : SessionEnd) : Type 0 where
  pub input : List ℕ
  pub output : List ℕ
  pub came : Consumes first.left now.left input
  pub went : Appends first.written now.written output
  pub over : Bool
  pub at_end : IsTrue over → IsAtEnd now.left
  pub serves : Serves answers first.service now.service input output how over

-- one line more was answered, or the session ended
abbrev pub Stepped : {S : Type 0} → Relation S → Start S → Result (Unit {0}) SessionEnd → Point S → ℕ → Type 0
Stepped answers first (Ok done) now count = (count < MAX_LINES) × SoFar answers first now (count + 1)
Stepped answers first (Err how) now count = WholeSession answers first now how

-- a step takes a session one line further, or ends it
abbrev pub Steps : {S : Type 0} → Relation S → Result (Unit {0}) SessionEnd → Point S → Point S → ℕ → Type 0
Steps {S} answers result old new count =
    (first : Start S) → SoFar answers first old count → Stepped answers first result new count

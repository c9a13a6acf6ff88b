-- The transcript: what one session wrote for what it read, over the turns of a run.
use Rattle.std.specs.Prelude.{ℕ, ◌≡◌, ◌+◌, ◌-◌, ◌<◌, ◌≤◌, ◌⊎◌, Bool, true, false, IsTrue, IsFalse, List, [], ◌∷◌, ◌++◌, length, map, take, slice_get, All, Option, Some, None}
use Rattle.std.specs.List.{flat_map}
use Rattle.std.specs.Option.{option_map_or}
use Rattle.doc_meaning.specs.History.{Base, History, front, merge}
use Rattle.transcript.specs.Answers.{reply_to_commit, reply_to_forget, reply_to_revive, reply_to_get, reply_to_search, reply_to_estimate, reads_of}
use Rattle.transcript.specs.Commands.{Asks}
use Rattle.transcript.specs.Lines.{Line, last, content, BeginsWithLines, HasNoFeed, IsPastLimits}
use Rattle.transcript.specs.Refusals.{Refuses, IsLater}
use Rattle.transcript.specs.Texts.{text_of}
use Rattle.transcript.specs.Turns.{commit, forget, wish, revive, Answer, done, Turn}
use Rattle.transcript.specs.OwnTurns.{TurnAt, turns_of, Uses, UsesLookAt, Looks}
use Rattle.transcript.specs.declared.command.Command.{Command}
use Rattle.transcript.specs.declared.command.Command.TheVariants as command
use Rattle.transcript.specs.declared.command.When.{When}
use Rattle.transcript.specs.declared.command.When.TheVariants.{Front, At, Pinned}
use Rattle.transcript.specs.declared.reply.Reply.{Reply}
use Rattle.transcript.specs.declared.reply.Reply.TheVariants as reply
use Rattle.transcript.specs.declared.session_end.SessionEnd.{SessionEnd}
use Rattle.transcript.specs.declared.session_end.SessionEnd.TheVariants as end
use Rattle.transcript.specs.declared.wish.Wish.TheVariants.{Save, Merge}
use Rattle.transcript.specs.declared.limits.TheConstants.{LONGEST_LINE}

-- the state of a session between lines: the history that its pin saw, how many lines more the faults of its port
-- excuse, and how many bytes of documents its lines may have read
pub record SessionState : Type 0 where
  pub pin : Option History
  pub faults_left : ℕ
  pub reads : ℕ

-- what a command that reads does at a history: it is answered so, and may read
abbrev pub ReadsAt : SessionState → Command → Option History → (History → Reply) → Reply → SessionState → Type 0
ReadsAt old asked (Some h) say answer new = (answer ≡ say h) × (new ≡ record old { reads = old.reads + reads_of asked h })
ReadsAt old asked None say answer new = (answer ≡ reply.NoPin) × (new ≡ old)

-- a command that reads: at the front or a timestamp by a look, or at the pin, whose front it reads
abbrev pub AnswersRead : Base → SessionState → Command → When → List TurnAt → (History → ℕ → Reply) → Reply →
    SessionState → Type 0
AnswersRead base old asked Front used say answer new =
    (h : History) × Looks base used h × ReadsAt old asked (Some h) (λ seen. say seen (front seen)) answer new
AnswersRead base old asked (At t) used say answer new =
    (h : History) × Looks base used h × ReadsAt old asked (Some h) (λ seen. say seen t) answer new
AnswersRead base old asked Pinned used say answer new =
    (used ≡ []) × ReadsAt old asked old.pin (λ seen. say seen (front seen)) answer new

-- how a command is answered, and the state behind it
abbrev pub AnswersCommand : Base → SessionState → Command → List TurnAt → Reply → SessionState → Type 0
AnswersCommand base old (command.Commit ops) used answer new =
    (found : Answer) × Uses used (commit ops) found × (Some answer ≡ reply_to_commit found) × (new ≡ old)
AnswersCommand base old (command.Get uri when) used answer new =
    AnswersRead base old (command.Get uri when) when used (reply_to_get uri) answer new
AnswersCommand base old (command.Search q when) used answer new =
    AnswersRead base old (command.Search q when) when used (reply_to_search q) answer new
AnswersCommand base old (command.Estimate q when) used answer new =
    AnswersRead base old (command.Estimate q when) when used (reply_to_estimate q) answer new
AnswersCommand base old command.Stamp used answer new =
    (h : History) × Looks base used h × (answer ≡ reply.Stamp (front h) (merge h)) × (new ≡ old)
AnswersCommand base old (command.Forget to) used answer new =
    (found : Answer) × Uses used (forget to) found × (Some answer ≡ reply_to_forget found) × (new ≡ old)
AnswersCommand base old command.Pin used answer new =
    (h : History) × Looks base used h × (answer ≡ reply.Ok (front h)) × (new ≡ record old { pin = Some h })
AnswersCommand base old command.Unpin used answer new =
    (used ≡ []) × (answer ≡ option_map_or (λ h. reply.Ok (front h)) old.pin reply.NoPin)
    × (new ≡ record old { pin = None })
AnswersCommand base old command.Save used answer new = Uses used (wish Save) done × (answer ≡ reply.Wished) × (new ≡ old)
AnswersCommand base old command.Merge used answer new = Uses used (wish Merge) done × (answer ≡ reply.Wished) × (new ≡ old)
AnswersCommand base old command.Revive used answer new =
    (found : Answer) × Uses used revive found × (Some answer ≡ reply_to_revive found) × (new ≡ old)
AnswersCommand base old command.Quit used answer new = (used ≡ []) × (answer ≡ reply.Bye) × (new ≡ old)

-- whether a reply tells what documents hold, so that the session may have read them for it
abbrev pub tells_documents : Reply → Bool
tells_documents (reply.Found at latest uris) = true
tells_documents (reply.Doc created at latest collections root) = true
tells_documents (reply.Ok at) = false
tells_documents reply.Wished = false
tells_documents (reply.NoDoc at latest) = false
tells_documents (reply.Estimate count at latest) = false
tells_documents (reply.Stamp latest merged) = false
tells_documents reply.Bye = false
tells_documents reply.Long = false
tells_documents (reply.Bad kind place) = false
tells_documents reply.NoPin = false
tells_documents reply.Deep = false
tells_documents reply.Many = false
tells_documents reply.Directory = false
tells_documents reply.Near = false
tells_documents (reply.NoRange name kind) = false
tells_documents (reply.Old asked merged) = false
tells_documents (reply.New asked latest) = false
tells_documents (reply.Back t merged) = false
tells_documents (reply.Ahead t latest) = false
tells_documents (reply.Twice uri) = false
tells_documents (reply.Conflict uri found latest) = false
tells_documents (reply.Spent latest) = false
tells_documents reply.Down = false
tells_documents reply.Fault = false
tells_documents (reply.Damaged file place) = false
tells_documents reply.Memory = false
tells_documents reply.Later = false

-- a sealed file has other bytes than the document that was written there; no file is read so far
abbrev pub IsDamage : Reply → Type 0
IsDamage answer = ⊥

-- in place of a reply that tells what documents hold, by a fault of the port, or by damage
abbrev pub IsExcused : Base → SessionState → Command → List TurnAt → Reply → SessionState → Type 0
IsExcused base old asked used answer new =
    (instead : Reply) × IsTrue (tells_documents instead)
    × (((answer ≡ reply.Fault) × AnswersCommand base old asked used instead (record new { faults_left = new.faults_left + 1 }))
    ⊎ (IsDamage answer × AnswersCommand base old asked used instead new))

-- whether a command uses a look
abbrev pub uses_look : Command → Bool
uses_look (command.Commit ops) = false
uses_look (command.Get uri Front) = true
uses_look (command.Get uri (At t)) = true
uses_look (command.Get uri Pinned) = false
uses_look (command.Search q Front) = true
uses_look (command.Search q (At t)) = true
uses_look (command.Search q Pinned) = false
uses_look (command.Estimate q Front) = true
uses_look (command.Estimate q (At t)) = true
uses_look (command.Estimate q Pinned) = false
uses_look command.Stamp = true
uses_look (command.Forget to) = false
uses_look command.Pin = true
uses_look command.Unpin = false
uses_look command.Save = false
uses_look command.Merge = false
uses_look command.Revive = false
uses_look command.Quit = false

-- the history at which a command reads: that of its look, or that of the pin
abbrev pub ReadsFrom : Base → SessionState → Command → List TurnAt → History → Type 0
ReadsFrom base old asked used h =
    (IsTrue (uses_look asked) × ((found : Answer) × UsesLookAt base used h found))
    ⊎ (IsFalse (uses_look asked) × (used ≡ []) × (old.pin ≡ Some h))

-- want of memory is free where a line used no turn or a look, and doesn't ask to quit; what it read until then counts.
-- Another turn answers its own want of memory
abbrev pub LacksMemory : Base → List ℕ → SessionState → List TurnAt → Reply → SessionState → Type 0
LacksMemory base line old used answer new =
    (answer ≡ reply.Memory) × (Asks line command.Quit → ⊥)
    × (((used ≡ []) × (new ≡ old))
    ⊎ ((asked : Command) × (h : History) × Asks line asked × ReadsFrom base old asked used h
    × (new ≡ record old { reads = old.reads + reads_of asked h })))

-- how a line is answered; an empty one isn't
abbrev pub AnswersLine : Base → SessionState → List ℕ → List TurnAt → Option Reply → SessionState → Type 0
AnswersLine base old [] used answer new = (used ≡ []) × (answer ≡ None) × (new ≡ old)
AnswersLine base old line used None new = ⊥
AnswersLine base old line used (Some answer) new =
    ((asked : Command) × Asks line asked
    × (AnswersCommand base old asked used answer new ⊎ IsExcused base old asked used answer new))
    ⊎ ((Refuses line answer ⊎ IsLater line answer) × (used ≡ []) × (new ≡ old))
    ⊎ LacksMemory base line old used answer new

-- a line that was served: the turns that it used, and its reply
pub record ServedLine : Type 0 where
  pub line : Line
  pub used : List TurnAt
  pub answer : Option Reply

-- the lines are answered in turn
abbrev pub AnswersLines : Base → SessionState → List ServedLine → SessionState → Type 0
AnswersLines base old [] new = new ≡ old
AnswersLines base old (first ∷ others) new =
    (mid : SessionState) × AnswersLine base old (content first.line) first.used first.answer mid
    × AnswersLines base mid others new

abbrev pub lines_of : List ServedLine → List Line
lines_of served = map (λ s. s.line) served

-- the text of a reply, none where there is none
abbrev pub text_of_answer : Option Reply → List ℕ
text_of_answer answer = option_map_or text_of answer []

-- the texts of the replies, in order
abbrev pub texts_of : List ServedLine → List (List ℕ)
texts_of served = map (λ s. text_of_answer s.answer) served

abbrev pub together : List (List ℕ) → List ℕ
together texts = flat_map (λ text. text) texts

abbrev pub AsksQuit : Line → Type 0
AsksQuit line = Asks (content line) command.Quit

-- no line asks to quit
abbrev pub AllStay : List Line → Type 0
AllStay lines = All (λ line. AsksQuit line → ⊥) lines

-- the last line asks to quit, and none before it
abbrev pub LastQuits : List Line → Type 0
LastQuits lines = (before : List Line) × (line : Line) × (lines ≡ before ++ line ∷ []) × AllStay before × AsksQuit line

-- how many bytes of replies wait at the most to be written together
abbrev pub most_waiting : ℕ
most_waiting = 65536

-- a write of these texts failed: the output is a beginning of them, and in the write that failed was some of the last
abbrev pub IsCut : List (List ℕ) → List ℕ → Type 0
IsCut texts output =
    ((n : ℕ) × (output ≡ take n (together texts))) × (0 < length (together texts))
    × (length (together (take (length texts - 1) texts)) < length output + most_waiting)

-- how a session ends that served these lines, with this input behind them, and wrote this output of these texts
abbrev pub Ends : SessionEnd → List Line → List ℕ → List (List ℕ) → List ℕ → Type 0
Ends end.Quit lines behind texts output = LastQuits lines × (output ≡ together texts)
Ends end.End lines behind texts output = AllStay lines × (behind ≡ []) × (output ≡ together texts)
Ends end.Long lines behind texts output =
    AllStay lines × IsPastLimits lines behind × (output ≡ together texts ++ text_of reply.Long)
Ends end.ReadFault lines behind texts output =
    AllStay lines × HasNoFeed behind × (length behind ≤ LONGEST_LINE) × (output ≡ together texts)
Ends end.WriteFault lines behind texts output =
    ((AllStay lines ⊎ LastQuits lines) × IsCut texts output)
    ⊎ (AllStay lines × IsPastLimits lines behind × IsCut (texts ++ text_of reply.Long ∷ []) output)
Ends end.Memory lines behind texts output = (lines ≡ []) × (behind ≡ []) × (output ≡ [])

-- the input is over where the session ends at its end, and where a line lacks its line feed; at a read that failed it
-- isn't
pub record IsOver (how : SessionEnd) (lines : List Line) (over : Bool) : Type 0 where
  pub at_end : how ≡ end.End → IsTrue over
  pub at_last : (k : ℕ) (bytes : List ℕ) → slice_get lines k ≡ Some (last bytes) → IsTrue over
  pub at_fault : how ≡ end.ReadFault → IsFalse over

-- a session from outside: its author, what it read, whether its source told its end, what it wrote, how it ended, and
-- by how much the two counts of its port rose
pub record Session : Type 0 where
  pub author : ℕ
  pub input : List ℕ
  pub over : Bool
  pub output : List ℕ
  pub how : SessionEnd
  pub faults : ℕ
  pub reads : ℕ

-- the session agrees with the turns of a run over a base: there are lines that its input begins with, answered in turn,
-- which use the turns of its author in order, each once and none left over, and its output is their replies
pub record Agrees (base : Base) (turns : List Turn) (session : Session) : Type 0 where
  pub served : List ServedLine
  pub behind : List ℕ
  pub final : SessionState
  pub lines : BeginsWithLines session.input (lines_of served) behind
  pub over : IsOver session.how (lines_of served) session.over
  pub used : turns_of session.author turns ≡ flat_map (λ s. s.used) served
  pub answers : AnswersLines base (record { pin = None; faults_left = session.faults; reads = 0 }) served final
  pub ends : Ends session.how (lines_of served) behind (texts_of served) session.output
  pub reads : session.reads ≤ final.reads

-- Laws of turns and transcripts.
use Rattle.std.specs.Prelude.{ℕ, ◌≡◌, ◌≢◌, ◌+◌, ◌-◌, ◌⊎◌, List, ◌++◌, take, slice_get, All, Some}
use Rattle.doc_model.specs.declared.entry.Entry.{Entry}
use Rattle.doc_model.specs.declared.entry.Entry.TheVariants as entry
use Rattle.doc_model.specs.declared.op.Op.{Op}
use Rattle.doc_meaning.specs.History.{Base, IsBase, IsHistory, front}
use Rattle.transcript.specs.Forms.{Form, HasForm}
use Rattle.transcript.specs.Legal.{AreLegal}
use Rattle.transcript.specs.Transcript.{Session, Agrees}
use Rattle.transcript.specs.Turns.{Event, commit, forget, Answer, commits, forgets, Turn, history_of}
use Rattle.doc_meaning.specs.declared.replies.CommitReply.TheVariants as committed
use Rattle.doc_meaning.specs.declared.replies.ForgetReply.TheVariants as forgot

-- a session that agrees with turns agrees with them and any further turns of others
abbrev pub LaterTurnsChangeNothing : Type 0
LaterTurnsChangeNothing = (base : Base) (turns later : List Turn) (session : Session) →
    All (λ turn. turn.author ≢ session.author) later → Agrees base turns session → Agrees base (turns ++ later) session

-- an accepted commit or forget, its timestamp and its entry
abbrev pub EntersAs : Event → Answer → ℕ → Entry → Type 0
EntersAs call answer at made =
    ((ops : List Op) × (call ≡ commit ops) × (answer ≡ commits (committed.Entered at)) × (made ≡ entry.Commit ops))
    ⊎ ((to : ℕ) × (call ≡ forget to) × (answer ≡ forgets (forgot.Entered at)) × (made ≡ entry.Forget to))

abbrev pub Enters : Turn → ℕ → Entry → Type 0
Enters turn at made = EntersAs turn.call turn.answer at made

-- the history of legal turns has the entry of each accepted commit and forget at the timestamp that it was answered:
-- the turns before it end one below, and with it they end there
abbrev pub HistoryHasEachOnce : Type 0
HistoryHasEachOnce = (base : Base) (longest : ℕ) (turns : List Turn) (k at : ℕ) (turn : Turn) (made : Entry) →
    AreLegal base longest turns → slice_get turns k ≡ Some turn → Enters turn at made →
    (at ≡ front (history_of base (take k turns)) + 1) × (at ≡ front (history_of base (take (k + 1) turns)))
    × (slice_get (history_of base turns).entries (at - 1 - base.front) ≡ Some made)

-- each entry of the history of legal turns is that of an accepted commit or forget, which was answered its timestamp
abbrev pub HistoryHasNoOthers : Type 0
HistoryHasNoOthers = (base : Base) (longest : ℕ) (turns : List Turn) (i : ℕ) (made : Entry) →
    AreLegal base longest turns → slice_get (history_of base turns).entries i ≡ Some made →
    (k : ℕ) × (turn : Turn) × (slice_get turns k ≡ Some turn) × Enters turn (base.front + i + 1) made

-- over a base, legal turns make a history that may come about: no commit names a URI twice, and each forget names a
-- timestamp from the merge timestamp to the front
abbrev pub LegalTurnsMakeAHistory : Type 0
LegalTurnsMakeAHistory = (base : Base) (longest : ℕ) (turns : List Turn) → IsBase base → AreLegal base longest turns →
    IsHistory (history_of base turns)

-- a line has one form at most
abbrev pub OneFormIsHad : Type 0
OneFormIsHad = (line : List ℕ) (a b : Form) → HasForm line a → HasForm line b → a ≡ b

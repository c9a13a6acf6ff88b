-- The turns of an author.
use Rattle.std.specs.Prelude.{ℕ, ◌≡◌, ◌==◌, List, [], ◌∷◌, ◌++◌, if◌then◌else◌}
use Rattle.doc_meaning.specs.History.{Base, History}
use Rattle.doc_meaning.specs.Replies.{look_reply}
use Rattle.transcript.specs.Turns.{Event, look, Answer, looks, Turn, history_of}

-- a turn, and those before it
pub record TurnAt : Type 0 where
  pub before : List Turn
  pub turn : Turn

-- those of an author, behind turns
abbrev pub turns_behind : ℕ → List Turn → List Turn → List TurnAt
turns_behind author before [] = []
turns_behind author before (turn ∷ turns) =
    (if turn.author == author then record { before = before; turn = turn } ∷ [] else [])
    ++ turns_behind author (before ++ turn ∷ []) turns

-- the turns of an author, in order
abbrev pub turns_of : ℕ → List Turn → List TurnAt
turns_of author turns = turns_behind author [] turns

-- one turn is used, in which this is asked and answered so
abbrev pub Uses : List TurnAt → Event → Answer → Type 0
Uses used call answer = (at : TurnAt) × (used ≡ at ∷ []) × (at.turn.call ≡ call) × (at.turn.answer ≡ answer)

-- a look is used, at this history
abbrev pub UsesLookAt : Base → List TurnAt → History → Answer → Type 0
UsesLookAt base used h answer =
    (at : TurnAt) × (used ≡ at ∷ []) × (at.turn.call ≡ look) × (at.turn.answer ≡ answer) × (h ≡ history_of base at.before)

-- and it saw it
abbrev pub Looks : Base → List TurnAt → History → Type 0
Looks base used h = UsesLookAt base used h (looks (look_reply h))

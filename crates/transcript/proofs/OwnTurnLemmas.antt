-- The turns of an author, where others follow.
use Rattle.std.proofs.Common.{◌≡◌, ◌≢◌, ◌==◌, ℕ, zero, suc, List, [], ◌∷◌, ◌++◌, false, if◌then◌else◌, refl, sym, ◌∙◌, ap, append-nil, append_assoc, arith}
use Rattle.std.specs.Prelude.{All}
use Rattle.std.proofs.Common.{rules}
use Rattle.transcript.specs.Laws.{LaterTurnsChangeNothing}
use Rattle.transcript.specs.OwnTurns.{TurnAt, turns_behind, turns_of}
use Rattle.transcript.specs.Turns.{Turn}

-- what a turn adds for an author
abbrev here : ℕ → List Turn → Turn → List TurnAt
here author before turn = if turn.author == author then record { before = before; turn = turn } ∷ [] else []

pub visits-append : (author : ℕ) (before turns later : List Turn) →
    turns_behind author before (turns ++ later) ≡ turns_behind author before turns ++ turns_behind author (before ++ turns) later
visits-append author before [] later = ap (λ (b : List Turn). turns_behind author b later) (sym (append-nil before))
visits-append author before (turn ∷ turns) later =
    let rest = visits-append author (before ++ turn ∷ []) turns later in
    let moved = ap (λ (b : List Turn). turns_behind author (before ++ turn ∷ []) turns ++ turns_behind author b later)
    (append_assoc before (turn ∷ []) turns) in
    ap (λ (vs : List TurnAt). here author before turn ++ vs) (rest ∙ moved)
    ∙ sym (append_assoc (here author before turn) (turns_behind author (before ++ turn ∷ []) turns)
    (turns_behind author (before ++ turn ∷ turns) later))

unlike : (a b : ℕ) → a ≢ b → (a == b) ≡ false
unlike a b differs = grind (arith, rules, differs)

pub visits-none : (author : ℕ) (before later : List Turn) → All (λ turn. turn.author ≢ author) later →
    turns_behind author before later ≡ []
visits-none author before [] others = refl
visits-none author before (turn ∷ later) others =
    rw (unlike turn.author author (others zero turn (omega arith))) (visits-none author (before ++ turn ∷ []) later
    (λ k d lt. others (suc k) d (omega (arith, lt))))

pub later_turns_change_nothing : LaterTurnsChangeNothing
later_turns_change_nothing base turns later session others agrees = record {
  served = agrees.served;
  behind = agrees.behind;
  final = agrees.final;
  lines = agrees.lines;
  over = agrees.over;
  used = visits-append session.author [] turns later
      ∙ (ap (λ (vs : List TurnAt). turns_of session.author turns ++ vs)
      (visits-none session.author turns later others) ∙ (append-nil (turns_of session.author turns) ∙
      agrees.used));
  answers = agrees.answers;
  ends = agrees.ends;
  reads = agrees.reads;
}

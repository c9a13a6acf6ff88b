-- One turn more of the one author.
use Rattle.std.proofs.Common.{◌≡◌, ℕ, List, [], ◌∷◌, ◌++◌, Option, Some, None, refl, sym, ◌∙◌, ap, append-nil}
use Rattle.std.proofs.lemmas.Grind.{flat_map-append}
use Rattle.doc_meaning.specs.History.{Base, History}
use Rattle.doc_model.specs.declared.entry.Entry.{Entry}
use Rattle.engine_session.specs.Pending.{pending_after, pending_behind, pending_of}
use Rattle.transcript.specs.Turns.{Answer, Event, Turn, down_after, down_of, entries_of, history_of}

-- a turn of the client, with the count of faults since which a log is down
abbrev pub turn_of : Event → Answer → Option ℕ → Turn
turn_of call answer count = record { author = 0; call = call; answer = answer; down = count }

abbrev pub over : Base → List Entry → History
over base entries = record { base = base; entries = entries }

pub down_last : (count : Option ℕ) (list : List Turn) (turn : Turn) → down_after count (list ++ turn ∷ []) ≡ turn.down
down_last count [] turn = refl
down_last count (first ∷ list) turn = down_last first.down list turn

pub pending_last : (earlier : Option Entry) (list : List Turn) (turn : Turn) → pending_after earlier (list ++ turn ∷ [])
    ≡ pending_behind (pending_after earlier list) turn.call turn.answer turn.down
pending_last earlier [] turn = refl
pending_last earlier (first ∷ list) turn =
    pending_last (pending_behind earlier first.call first.answer first.down) list turn

-- where no log is down nothing was broken off
pub behind_none : (earlier : Option Entry) (call : Event) (answer : Answer) (count : Option ℕ) → count ≡ None
    → pending_behind earlier call answer count ≡ None
behind_none earlier call answer None is = refl
behind_none earlier call answer (Some n) is = absurd (cc)

after_none : (earlier : Option Entry) (count : Option ℕ) (list : List Turn) → (count ≡ None → earlier ≡ None)
    → down_after count list ≡ None → pending_after earlier list ≡ None
after_none earlier count [] so is = so is
after_none earlier count (first ∷ list) so is =
    after_none (pending_behind earlier first.call first.answer first.down) first.down list
    (behind_none earlier first.call first.answer first.down) is

pub up_none : (list : List Turn) → down_of list ≡ None → pending_of list ≡ None
up_none list is = after_none None None list (λ none. refl) is

-- an answer that is no fault leaves what was broken off
pub pending_stays : (list : List Turn) (call : Event) (answer : Answer) (count : Option ℕ) → count ≡ down_of list
    → ((n : ℕ) → pending_behind (pending_of list) call answer (Some n) ≡ pending_of list)
    → pending_behind (pending_of list) call answer count ≡ pending_of list
pending_stays list call answer None is so = sym (up_none list (sym is))
pending_stays list call answer (Some n) is so = so n

module _ (base : Base) where
  pub entries_more : (list : List Turn) (turn : Turn) → (history_of base (list ++ turn ∷ [])).entries
      ≡ (history_of base list).entries ++ entries_of turn.call turn.answer
  entries_more list turn =
      flat_map-append (λ (t : Turn). entries_of t.call t.answer) list (turn ∷ [])
      ∙ ap (λ (es : List Entry). (history_of base list).entries ++ es) (append-nil (entries_of turn.call turn.answer))

  -- a turn that makes no entry
  pub same_more : (list : List Turn) (turn : Turn) → entries_of turn.call turn.answer ≡ []
      → history_of base (list ++ turn ∷ []) ≡ history_of base list
  same_more list turn none =
      ap (over base) (entries_more list turn
      ∙ (ap (λ (es : List Entry). (history_of base list).entries ++ es) none
      ∙ append-nil (history_of base list).entries))

  -- a turn that makes this entry
  pub one_more : (list : List Turn) (turn : Turn) (entry : Entry) → entries_of turn.call turn.answer ≡ entry ∷ []
      → history_of base (list ++ turn ∷ []) ≡ over base ((history_of base list).entries ++ entry ∷ [])
  one_more list turn entry one =
      ap (over base) (entries_more list turn
      ∙ ap (λ (es : List Entry). (history_of base list).entries ++ es) one)

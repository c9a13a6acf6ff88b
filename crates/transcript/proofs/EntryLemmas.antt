-- The entries of accepted turns.
use Rattle.std.proofs.Common.{◌⊎◌, ◌≡◌, ◌<◌, ◌+◌, ℕ, zero, suc, ◌-◌, List, [], ◌∷◌, ◌++◌, length, take, drop, Bool, true, false, if◌then◌else◌, refl, sym, ◌∙◌, ap, subst, inl, inr, ⊎_elim, Option, Some, None, map, drop-cons, length-append, arith}
use Rattle.std.specs.List.{flat_map, slice_get, find}
use Rattle.std.proofs.lemmas.Grind.{flat_map-append}
use Rattle.std.proofs.lemmas.List.{take-append-drop}
use Rattle.std.proofs.lemmas.Option.{slice_get_within, get_or_from_slice_get, slice_get-get_or}
use Rattle.std.proofs.Math.Seq.{get_or-append_seam}
use Rattle.doc_model.specs.Operations.{uri_of}
use Rattle.doc_model.specs.declared.entry.Entry.{Entry}
use Rattle.doc_model.specs.declared.entry.Entry.TheVariants as entry
use Rattle.doc_model.specs.declared.op.Op.{Op}
use Rattle.std.specs.Prelude.{nat_lt}
use Rattle.doc_meaning.specs.History.{Base, History, front, merge, latest}
use Rattle.doc_meaning.specs.Replies.{unless_twice, unless_conflict, first_twice, differs, is_spent}
use Rattle.doc_meaning.specs.declared.replies.CommitReply.TheVariants as committed
use Rattle.doc_meaning.specs.declared.replies.ForgetReply.TheVariants as forgot
use Rattle.transcript.specs.Laws.{Enters, EntersAs, HistoryHasEachOnce, HistoryHasNoOthers}
use Rattle.transcript.specs.Legal.{IsTurn, AnswersEvent, UnlessDown, is_stopped}
use Rattle.transcript.specs.Turns as turns
use Rattle.transcript.specs.Turns.{Event, Answer, Turn, entries_of, history_of, down_of}

pub take_more : {X : Type 0} (xs : List X) (k : ℕ) (x : X) → slice_get xs k ≡ Some x → take (suc k) xs ≡ take k xs ++ x ∷ []
take_more [] k x is = absurd (none_is is)
  where
    none_is : None ≡ Some x → ⊥
    none_is e = cc
take_more (y ∷ xs) zero x is = let same : y ≡ x = cc in ap (λ (e : _). e ∷ []) same
take_more (y ∷ xs) (suc k) x is = ap (λ (l : List _). y ∷ l) (take_more xs k x is)

-- what one element of a list adds is behind what those before it add
pub added_at : {X Y : Type 0} (f : X → List Y) (xs : List X) (k : ℕ) (x : X) (y : Y) → slice_get xs k ≡ Some x → f x ≡ y ∷ [] →
    slice_get (flat_map f xs) (length (flat_map f (take k xs))) ≡ Some y
added_at {X} {Y} f xs k x y here adds =
    let lt = slice_get_within xs k x here in
    let split : xs ≡ take k xs ++ x ∷ drop (suc k) xs =
    sym (take-append-drop k xs) ∙ ap (λ (l : List X). take k xs ++ l) (drop-cons xs k x lt ∙
    ap (λ (e : X). e ∷ drop (suc k) xs) (get_or_from_slice_get xs k x x here)) in
    let before : List Y = flat_map f (take k xs) in
    let behind : List Y = flat_map f (drop (suc k) xs) in
    let whole : flat_map f xs ≡ before ++ y ∷ behind =
    ap (flat_map f) split ∙ (flat_map-append f (take k xs) (x ∷ drop (suc k) xs) ∙
    ap (λ (l : List Y). before ++ (l ++ behind)) adds) in
    let within : length before < length (before ++ y ∷ behind) = omega (arith, length-append before (y ∷ behind)) in
    ap (λ (l : List Y). slice_get l (length before)) whole
    ∙ (slice_get-get_or (before ++ y ∷ behind) (length before) y within ∙
    ap (λ (e : Y). Some e) (get_or-append_seam before y behind y))

entered : (h : History) (at : ℕ) (twice : Option (List ℕ)) (conflict : Option Op) (spent : Bool) →
    unless_twice twice (unless_conflict h conflict (if spent then committed.Spent (front h) else committed.Entered
    (front h + 1))) ≡ committed.Entered at → at ≡ front h + 1
entered h at (Some uri) conflict spent is = absurd (cc)
entered h at None (Some op) spent is = absurd (cc)
entered h at None None true is = absurd (cc)
entered h at None None false is = cc

forgotten : (h : History) (at to : ℕ) (back ahead spent : Bool) (merged : ℕ) →
    (if back then forgot.Back to merged else if ahead then forgot.Ahead to (front h) else if spent then forgot.Spent
    (front h) else forgot.Entered (front h + 1)) ≡ forgot.Entered at → at ≡ front h + 1
forgotten h at to true ahead spent merged is = absurd (cc)
forgotten h at to false true spent merged is = absurd (cc)
forgotten h at to false false true merged is = absurd (cc)
forgotten h at to false false false merged is = cc

-- what a legal turn that is no want of memory and not stopped is answered
pub answered : {Defined : Type 0} (stopped : Bool) (count : Option ℕ) (answer : Answer) →
    ((n : ℕ) → answer ≡ turns.down n → ⊥) → UnlessDown stopped count answer Defined → Defined
answered true (Some n) answer differs is = absurd (differs n is)
answered true None answer differs is = is
answered false count answer differs is = is

commit_at : (base : Base) (longest : ℕ) (before : List Turn) (turn : Turn) (ops : List Op) (at : ℕ) →
    turn.call ≡ turns.commit ops → turn.answer ≡ turns.commits (committed.Entered at) →
    IsTurn base longest before turn → at ≡ front (history_of base before) + 1
commit_at base longest before turn ops at asks says legal =
    let h = history_of base before in
    ⊎_elim
    (λ lacks. absurd (cc))
    (λ is. ⊎_elim
    (λ defined. entered h at (first_twice [] (map uri_of ops)) (find (differs (latest h)) ops) (is_spent defined.0 h) cc)
    (λ failed. let fails = failed.0 in absurd (cc))
    (answered true (down_of before) turn.answer (λ n e. absurd (cc))
    (subst (λ (c : Event). UnlessDown (is_stopped c) (down_of before) turn.answer
    (AnswersEvent base longest before c turn.answer)) asks is)))
    legal.answers

forget_at : (base : Base) (longest : ℕ) (before : List Turn) (turn : Turn) (to at : ℕ) →
    turn.call ≡ turns.forget to → turn.answer ≡ turns.forgets (forgot.Entered at) → IsTurn base longest before turn →
    at ≡ front (history_of base before) + 1
forget_at base longest before turn to at asks says legal =
    let h = history_of base before in
    ⊎_elim
    (λ lacks. absurd (cc))
    (λ is. ⊎_elim
    (λ defined. forgotten h at to (nat_lt to (merge h)) (nat_lt (front h) to) (is_spent defined.0 h) (merge h) cc)
    (λ failed. let fails = failed.0 in absurd (cc))
    (answered true (down_of before) turn.answer (λ n e. absurd (cc))
    (subst (λ (c : Event). UnlessDown (is_stopped c) (down_of before) turn.answer
    (AnswersEvent base longest before c turn.answer)) asks is)))
    legal.answers

-- it makes its entry, at the timestamp behind those before it
enters : (base : Base) (longest : ℕ) (before : List Turn) (turn : Turn) (at : ℕ) (made : Entry) →
    Enters turn at made → IsTurn base longest before turn
    → (at ≡ front (history_of base before) + 1) × (entries_of turn.call turn.answer ≡ made ∷ [])
enters base longest before turn at made (inl (ops, asks, says, is)) legal =
    (commit_at base longest before turn ops at asks says legal, rw (asks, says, is) refl)
enters base longest before turn at made (inr (to, asks, says, is)) legal =
    (forget_at base longest before turn to at asks says legal, rw (asks, says, is) refl)

pub history_has_each_once : HistoryHasEachOnce
history_has_each_once base longest list k at turn made legal here is =
    let f : Turn → List Entry = λ t. entries_of t.call t.answer in
    let one_more : k + 1 ≡ suc k = omega arith in
    let (next, makes) = enters base longest (take k list) turn at made is (legal k turn here) in
    let adds : flat_map f (take k list ++ turn ∷ []) ≡ flat_map f (take k list) ++ made ∷ [] =
    flat_map-append f (take k list) (turn ∷ []) ∙ ap (λ (es : List Entry). flat_map f (take k list) ++ (es ++ [])) makes in
    let more : front (history_of base (take (k + 1) list)) ≡ front (history_of base (take k list)) + 1 =
    ap (λ (l : List Turn). front (history_of base l)) (ap (λ (n : ℕ). take n list) one_more ∙ take_more list k turn here)
    ∙ (ap (λ (es : List Entry). base.front + length es) adds
    ∙ omega (arith, length-append (flat_map f (take k list)) (made ∷ []))) in
    let place : at - 1 - base.front ≡ length (flat_map f (take k list)) = omega (arith, next) in
    (next, next ∙ sym more, ap (λ (n : ℕ). slice_get (flat_map f list) n) place ∙ added_at f list k turn made here makes)

-- what a turn makes: no entry, or one
pub makes : (call : Event) (answer : Answer)
    → (entries_of call answer ≡ []) ⊎ ((at : ℕ) × (made : Entry) × (entries_of call answer ≡ made ∷ []) ×
    EntersAs call answer at made)
makes (turns.commit ops) (turns.commits (committed.Entered at)) = inr (at, entry.Commit ops, refl, inl (ops, refl, refl, refl))
makes (turns.commit ops) (turns.commits (committed.Twice uri)) = inl refl
makes (turns.commit ops) (turns.commits (committed.Conflict uri found at)) = inl refl
makes (turns.commit ops) (turns.commits (committed.Spent at)) = inl refl
makes (turns.commit ops) (turns.forgets answer) = inl refl
makes (turns.commit ops) (turns.looks answer) = inl refl
makes (turns.commit ops) (turns.starts n) = inl refl
makes (turns.commit ops) turns.done = inl refl
makes (turns.commit ops) (turns.revives n) = inl refl
makes (turns.commit ops) (turns.down n) = inl refl
makes (turns.commit ops) (turns.busy n) = inl refl
makes (turns.commit ops) (turns.owed n) = inl refl
makes (turns.commit ops) (turns.nothing n) = inl refl
makes (turns.commit ops) (turns.spent n) = inl refl
makes (turns.commit ops) turns.fault = inl refl
makes (turns.commit ops) turns.memory = inl refl
makes (turns.forget to) (turns.forgets (forgot.Entered at)) = inr (at, entry.Forget to, refl, inr (to, refl, refl, refl))
makes (turns.forget to) (turns.forgets (forgot.Back t merged)) = inl refl
makes (turns.forget to) (turns.forgets (forgot.Ahead t at)) = inl refl
makes (turns.forget to) (turns.forgets (forgot.Spent at)) = inl refl
makes (turns.forget to) (turns.commits answer) = inl refl
makes (turns.forget to) (turns.looks answer) = inl refl
makes (turns.forget to) (turns.starts n) = inl refl
makes (turns.forget to) turns.done = inl refl
makes (turns.forget to) (turns.revives n) = inl refl
makes (turns.forget to) (turns.down n) = inl refl
makes (turns.forget to) (turns.busy n) = inl refl
makes (turns.forget to) (turns.owed n) = inl refl
makes (turns.forget to) (turns.nothing n) = inl refl
makes (turns.forget to) (turns.spent n) = inl refl
makes (turns.forget to) turns.fault = inl refl
makes (turns.forget to) turns.memory = inl refl
makes turns.look answer = inl refl
makes (turns.wish what) answer = inl refl
makes turns.start_save answer = inl refl
makes turns.start_merge answer = inl refl
makes (turns.install_save n) answer = inl refl
makes (turns.install_merge n) answer = inl refl
makes (turns.abandon n) answer = inl refl
makes turns.tidy answer = inl refl
makes turns.revive answer = inl refl

abbrev pub entries_by : Turn → List Entry
entries_by turn = entries_of turn.call turn.answer

-- an entry is that of a turn behind so many
abbrev ComesFrom : List Turn → ℕ → Entry → Type 0
ComesFrom list i made =
    (k : ℕ) × (turn : Turn) × (at : ℕ) × (slice_get list k ≡ Some turn) × Enters turn at made ×
    (length (flat_map entries_by (take k list)) ≡ i)

behind : (turn : Turn) (list : List Turn) (i j : ℕ) (made : Entry) → length (entries_by turn) + j ≡ i →
    ComesFrom list j made → ComesFrom (turn ∷ list) i made
behind turn list i j made sum (k, later, at, here, enters, place) = (
  suc k,
  later,
  at,
  here,
  enters,
  length-append (entries_by turn) (flat_map entries_by (take k list)) ∙
      (ap (λ (n : ℕ). length (entries_by turn) + n) place ∙ sum),
)

comes_first : (turn : Turn) (list : List Turn) (i at : ℕ) (first made : Entry) → entries_by turn ≡ first ∷ [] →
    Enters turn at first
    → ((j : ℕ) → slice_get (flat_map entries_by list) j ≡ Some made → ComesFrom list j made)
    → slice_get (first ∷ flat_map entries_by list) i ≡ Some made → ComesFrom (turn ∷ list) i made
comes_first turn list zero at first made one enters rest is =
    let same : first ≡ made = cc in
    (0, turn, at, refl, subst (λ (e : Entry). Enters turn at e) same enters, refl)
comes_first turn list (suc j) at first made one enters rest is =
    behind turn list (suc j) j made (omega (arith, ap (λ (es : List Entry). length es) one)) (rest j is)

comes_next : (turn : Turn) (list : List Turn) (i : ℕ) (made : Entry)
    → ((j : ℕ) → slice_get (flat_map entries_by list) j ≡ Some made → ComesFrom list j made)
    → slice_get (entries_by turn ++ flat_map entries_by list) i ≡ Some made → ComesFrom (turn ∷ list) i made
comes_next turn list i made rest is =
    ⊎_elim
    (λ none. behind turn list i i made (omega (arith, ap (λ (es : List Entry). length es) none))
    (rest i (subst (λ (es : List Entry). slice_get (es ++ flat_map entries_by list) i ≡ Some made) none is)))
    (λ one. comes_first turn list i one.0 one.1 made one.2 one.3 rest
    (subst (λ (es : List Entry). slice_get (es ++ flat_map entries_by list) i ≡ Some made) one.2 is))
    (makes turn.call turn.answer)

none_is : {X : Type 0} (x : X) → None ≡ Some x → ⊥
none_is x e = cc

comes_from : (list : List Turn) (i : ℕ) (made : Entry) → slice_get (flat_map entries_by list) i ≡ Some made →
    ComesFrom list i made
comes_from [] i made is = absurd (none_is made is)
comes_from (turn ∷ list) i made is = comes_next turn list i made (λ j here. comes_from list j made here) is

pub history_has_no_others : HistoryHasNoOthers
history_has_no_others base longest list i made legal is =
    let (k, turn, at, here, enter, place) = comes_from list i made is in
    let (next, made_so) = enters base longest (take k list) turn at made enter (legal k turn here) in
    let at_is : at ≡ base.front + i + 1 = omega (arith, next, place) in
    (k, turn, here, subst (λ (n : ℕ). Enters turn n made) at_is enter)

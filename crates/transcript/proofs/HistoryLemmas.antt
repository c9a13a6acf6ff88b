-- Legal turns make a history.
use Rattle.std.proofs.Common.{◌⊎◌, ◌≡◌, ◌≤◌, ◌<◌, ◌+◌, ℕ, zero, suc, List, [], ◌∷◌, ◌++◌, length, take, Bool, true, false, if◌then◌else◌}
use Rattle.std.proofs.Common.{refl, sym, ◌∙◌, ap, subst, inl, inr, ⊎_elim, Option, Some, None, map, get_or, take_all, append-nil, arith}
use Rattle.std.specs.List.{flat_map, slice_get, find}
use Rattle.std.specs.Prelude.{IsTrue, nat_lt}
use Rattle.std.proofs.lemmas.Bool.{ltb-false}
use Rattle.std.proofs.lemmas.Grind.{flat_map-append}
use Rattle.std.proofs.lemmas.Option.{slice_get-get_or}
use Rattle.doc_model.specs.Operations.{uri_of, AreOps}
use Rattle.doc_model.specs.Tree.{is_distinct}
use Rattle.doc_model.specs.declared.entry.Entry.{Entry}
use Rattle.doc_model.specs.declared.entry.Entry.TheVariants as entry
use Rattle.doc_model.specs.declared.op.Op.{Op}
use Rattle.doc_meaning.proofs.DistinctLemmas.{distinct_from_none}
use Rattle.doc_meaning.proofs.EntryLemmas.{rules_push}
use Rattle.doc_meaning.specs.History.{AreEntries, Base, History, front, latest, merge}
use Rattle.doc_meaning.specs.Replies.{unless_twice, unless_conflict, first_twice, differs, is_spent}
use Rattle.doc_meaning.specs.declared.replies.CommitReply.TheVariants as committed
use Rattle.doc_meaning.specs.declared.replies.ForgetReply.TheVariants as forgot
use Rattle.transcript.proofs.EntryLemmas.{answered, entries_by, makes, take_more}
use Rattle.transcript.specs.Laws.{EntersAs, LegalTurnsMakeAHistory}
use Rattle.transcript.specs.Legal.{AreLegal, AnswersEvent, IsAsked, IsTurn, UnlessDown, is_stopped}
use Rattle.transcript.specs.Turns as turns
use Rattle.transcript.specs.Turns.{Event, Turn, down_of, history_of}

-- what is entered names no URI twice
once : (h : History) (at : ℕ) (twice : Option (List ℕ)) (reply : _) →
    unless_twice twice reply ≡ committed.Entered at → twice ≡ None
once h at (Some uri) reply is = absurd (cc)
once h at None reply is = refl

-- a forget that is entered is neither back nor ahead
between : (h : History) (at to merged : ℕ) (back ahead spent : Bool) →
    (if back then forgot.Back to merged else if ahead then forgot.Ahead to (front h)
    else if spent then forgot.Spent (front h) else forgot.Entered (front h + 1)) ≡ forgot.Entered at →
    (back ≡ false) × (ahead ≡ false)
between h at to merged true ahead spent is = absurd (cc)
between h at to merged false true spent is = absurd (cc)
between h at to merged false false spent is = (refl, refl)

module _ (base : Base) (longest : ℕ) (before : List Turn) (turn : Turn) (legal : IsTurn base longest before turn) where
  abbrev h : History
  h = history_of base before

  -- what a turn that is stopped by a log fault may be answered, where it was no want of memory and not stopped
  defined : (call : Event) → turn.call ≡ call → (turn.answer ≡ turns.memory → ⊥) →
      ((n : ℕ) → turn.answer ≡ turns.down n → ⊥) → AnswersEvent base longest before call turn.answer
  defined call asks known going =
      ⊎_elim (λ lacks. absurd (known lacks.1))
      (λ is. answered (is_stopped call) (down_of before) turn.answer going
      (subst (λ (c : Event). UnlessDown (is_stopped c) (down_of before) turn.answer
      (AnswersEvent base longest before c turn.answer)) asks is))
      legal.answers

  -- an accepted commit keeps the rules of an entry
  commit_fits : (ops : List Op) (at : ℕ) → turn.call ≡ turns.commit ops →
      turn.answer ≡ turns.commits (committed.Entered at) → AreEntries (front h) (merge h) (entry.Commit ops ∷ [])
  commit_fits ops at asks says =
      let kept : AreOps ops = subst (λ (c : Event). IsAsked c) asks legal.asked in
      let none : first_twice [] (map uri_of ops) ≡ None =
      ⊎_elim
      (λ told. once h at (first_twice [] (map uri_of ops))
      (unless_conflict h (find (differs (latest h)) ops)
      (if is_spent told.0 h then committed.Spent (front h) else committed.Entered (front h + 1))) cc)
      (λ failed. let fails = failed.0 in absurd (cc))
      (defined (turns.commit ops) asks (λ e. absurd (cc)) (λ n e. absurd (cc))) in
      (kept, distinct_from_none (map uri_of ops) (sym none), tt)

  -- and so does an accepted forget
  forget_fits : (to at : ℕ) → turn.call ≡ turns.forget to → turn.answer ≡ turns.forgets (forgot.Entered at) →
      AreEntries (front h) (merge h) (entry.Forget to ∷ [])
  forget_fits to at asks says =
      let parts : (nat_lt to (merge h) ≡ false) × (nat_lt (front h) to ≡ false) =
      ⊎_elim
      (λ told. between h at to (merge h) (nat_lt to (merge h)) (nat_lt (front h) to) (is_spent told.0 h) cc)
      (λ failed. let fails = failed.0 in absurd (cc))
      (defined (turns.forget to) asks (λ e. absurd (cc)) (λ n e. absurd (cc))) in
      (ltb-false to (merge h) parts.0, ltb-false (front h) to parts.1, tt)

  fits : (at : ℕ) (made : Entry) → EntersAs turn.call turn.answer at made →
      AreEntries (front h) (merge h) (made ∷ [])
  fits at made (inl (ops, asks, says, is)) =
      subst (λ (e : Entry). AreEntries (front h) (merge h) (e ∷ [])) (sym is) (commit_fits ops at asks says)
  fits at made (inr (to, asks, says, is)) =
      subst (λ (e : Entry). AreEntries (front h) (merge h) (e ∷ [])) (sym is) (forget_fits to at asks says)

  -- one turn more keeps the rules of the entries
  pub one_more : AreEntries base.front base.merge (flat_map entries_by before) →
      AreEntries base.front base.merge (flat_map entries_by (before ++ turn ∷ []))
  one_more are =
      let added : flat_map entries_by (before ++ turn ∷ []) ≡ flat_map entries_by before ++ entries_by turn =
      flat_map-append entries_by before (turn ∷ [])
      ∙ ap (λ (es : List Entry). flat_map entries_by before ++ es) (append-nil (entries_by turn)) in
      ⊎_elim
      (λ none. subst (AreEntries base.front base.merge)
      (sym (added ∙ ap (λ (es : List Entry). flat_map entries_by before ++ es) none
      ∙ append-nil (flat_map entries_by before))) are)
      (λ one. subst (AreEntries base.front base.merge)
      (sym (added ∙ ap (λ (es : List Entry). flat_map entries_by before ++ es) one.2))
      (rules_push base.front base.merge (flat_map entries_by before) one.1 are (fits one.0 one.1 one.3)))
      (makes turn.call turn.answer)

-- the first turns keep them
first_keep : (base : Base) (longest : ℕ) (list : List Turn) → AreLegal base longest list → (k : ℕ) →
    k ≤ length list → AreEntries base.front base.merge (flat_map entries_by (take k list))
first_keep base longest list legal zero le = tt
first_keep base longest list legal (suc k) le =
    let within : k < length list = omega (arith, le) in
    let turn : Turn = get_or list k (record { author = 0; call = turns.look; answer = turns.done; down = None }) in
    let here : slice_get list k ≡ Some turn = slice_get-get_or list k _ within in
    subst (λ (l : List Turn). AreEntries base.front base.merge (flat_map entries_by l))
    (sym (take_more list k turn here))
    (one_more base longest (take k list) turn (legal k turn here)
    (first_keep base longest list legal k (omega (arith, le))))

pub legal_turns_make_a_history : LegalTurnsMakeAHistory
legal_turns_make_a_history base longest list is_base legal = record {
  base = is_base;
  entries = subst (λ (l : List Turn). AreEntries base.front base.merge (flat_map entries_by l))
      (take_all (length list) list (omega arith)) (first_keep base longest list legal (length list) (omega arith));
}

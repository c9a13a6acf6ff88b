-- The frames tell one more entry where its body goes on the current journal.
use Rattle.std.proofs.Common.{◌≡◌, ◌⊎◌, inl, inr, ℕ, zero, suc, ◌+◌, ◌-◌, ◌<◌, List, [], ◌∷◌, ◌++◌, length, map, refl, sym, ap, ap₂, ◌∙◌, subst, subst₂, arith, append_assoc, length-append}
use Rattle.std.proofs.lemmas.List.{map-append}
use Rattle.disk_model.specs.Files.{Files}
use Rattle.doc_model.specs.declared.entry.Entry.{Entry}
use Rattle.doc_meaning.proofs.EntryLemmas.{merge_after_push, rules_push}
use Rattle.doc_meaning.specs.History.{AreEntries, History, front, merge_after}
use Rattle.journal_bodies.specs.Entries.{SpellsEntry}
use Rattle.directory_meaning.specs.Bodies.{Bodies, IsJournal, Numbered, RiseFrom, SpellEntries, TellsEntries, by_first_number, past}
use Rattle.directory_meaning.specs.Laws.{AnotherEntryIsTold}
use Rattle.directory_meaning.specs.Shown.{IsCurrent, TakesNext, Tells, TellsAt, with_body, with_entry}
use Rattle.directory_meaning.proofs.EntryLemmas.{front_push, merge_rises}
use Rattle.directory_meaning.proofs.OneLemmas.{one_journal, same_journal, same_root}
use Rattle.directory_meaning.proofs.Rising.{first_first, past_push, rise_one, rise_push, second_first}

spell_push : (bodies : List (List ℕ)) (es : List Numbered) (body : List ℕ) (e : Numbered) → SpellEntries bodies es →
    SpellsEntry body e.0 e.1 → SpellEntries (bodies ++ body ∷ []) (es ++ e ∷ [])
spell_push [] [] body e all more = (more, tt)
spell_push [] (x ∷ es) body e all more = absurd all
spell_push (b ∷ bodies) [] body e all more = absurd all
spell_push (b ∷ bodies) (x ∷ es) body e all more = (all.0, spell_push bodies es body e all.1 more)

-- the numbers of these entries rise up to this one
abbrev EndsBefore : ℕ → List Numbered → Type 0
EndsBefore end es = (n : ℕ) × RiseFrom n es × (n + length es ≡ end)

ends_push : (es : List Numbered) (e : Numbered) → (es ≡ []) ⊎ EndsBefore e.0 es → EndsBefore (e.0 + 1) (es ++ e ∷ [])
ends_push [] e (inl none) = (e.0, rise_one e.0 e refl, omega arith)
ends_push (x ∷ es) e (inl none) = absurd (cc)
ends_push es e (inr run) =
    (run.0, rise_push run.0 es e run.1 (omega arith), omega (arith, run.2, length-append es (e ∷ [])))

journal_push : (bodies : List (List ℕ)) (es : List Numbered) (body : List ℕ) (e : Numbered) → IsJournal bodies es →
    (es ≡ []) ⊎ EndsBefore e.0 es → SpellsEntry body e.0 e.1 → IsJournal (bodies ++ body ∷ []) (es ++ e ∷ [])
journal_push bodies es body e journal ends spelled =
    let run = ends_push es e ends in
    record { from = run.0; spelled = spell_push bodies es body e journal.spelled spelled; rises = run.1 }

-- past the checkpoint the entries of the other journal, and behind them those of its own
abbrev joined : ℕ → List Numbered → List Numbered → List Numbered
joined checkpoint other own = past checkpoint other ++ past checkpoint own

-- these numbered entries are told as these
abbrev AreTold : ℕ → List Entry → List Numbered → Type 0
AreTold checkpoint told es = RiseFrom (checkpoint + 1) es × (told ≡ map (λ e. e.1) es)

joined_push : (checkpoint : ℕ) (own other : List Numbered) (e : Numbered) → checkpoint < e.0 →
    joined checkpoint other own ++ e ∷ [] ≡ joined checkpoint other (own ++ e ∷ [])
joined_push checkpoint own other e late =
    append_assoc (past checkpoint other) (past checkpoint own) (e ∷ [])
    ∙ ap (λ es. past checkpoint other ++ es) (sym (past_push checkpoint own e late))

module _ (checkpoint end : ℕ) (own other : List Numbered) (takes : TakesNext checkpoint end own other) where
  -- one more entry is the next one past the checkpoint
  told_push : (told : List Entry) (e : Numbered) → e.0 ≡ end + 1 → told ≡ map (λ e. e.1) (joined checkpoint other own) →
      AreTold checkpoint (told ++ e.1 ∷ []) (joined checkpoint other (own ++ e ∷ []))
  told_push told e at is =
      subst (AreTold checkpoint (told ++ e.1 ∷ []))
      (joined_push checkpoint own other e (omega (arith, takes.reaches))) (
        rise_push (checkpoint + 1) (joined checkpoint other own) e takes.rises
            (omega (arith, takes.reaches, length-append (past checkpoint other) (past checkpoint own))),
        ap (λ es. es ++ e.1 ∷ []) is ∙ sym (map-append (λ (d : Numbered). d.1) (joined checkpoint other own) (e ∷ [])),
      )

  -- and the journal takes the one behind it
  takes_push : (e : Numbered) → e.0 ≡ end + 1 → TakesNext checkpoint (end + 1) (own ++ e ∷ []) other
  takes_push e at =
      let pushed = past_push checkpoint own e (omega (arith, takes.reaches)) in
      let ends = subst (λ n. (own ≡ []) ⊎ EndsBefore n own) (sym at) takes.next in
      record {
        rises = (told_push _ e at refl).0;
        reaches = omega (arith, takes.reaches, ap length pushed, length-append (past checkpoint own) (e ∷ []));
        next = inr (subst (λ n. EndsBefore (n + 1) (own ++ e ∷ [])) at (ends_push own e ends));
      }

-- what is told, by other lists of the same journals
told_by : (bodies : Bodies) (checkpoint : ℕ) (told : List Entry) (first second all : List Numbered) →
    TellsEntries bodies checkpoint told → IsJournal (bodies 0) first → IsJournal (bodies 1) second →
    by_first_number (past checkpoint first) (past checkpoint second) ≡ all → told ≡ map (λ e. e.1) all
told_by bodies checkpoint told first second all tells zeros ones turn =
    let these = one_journal (bodies 0) tells.entries_0 first tells.first_journal.spelled zeros.spelled in
    let those = one_journal (bodies 1) tells.entries_1 second tells.second_journal.spelled ones.spelled in
    tells.entries
    ∙ ap₂ (λ a b. map (λ (e : Numbered). e.1) (by_first_number (past checkpoint a) (past checkpoint b))) these those
    ∙ ap (map (λ (e : Numbered). e.1)) turn

module _ (bodies : Bodies) (checkpoint end : ℕ) (told : List Entry) (body : List ℕ) (entry : Entry)
    (spelled : SpellsEntry body (end + 1) entry) where
  -- on the first journal
  told_first : IsCurrent bodies checkpoint end 0 → TellsEntries bodies checkpoint told →
      TellsEntries (with_body bodies 0 body) checkpoint (told ++ entry ∷ [])
  told_first now tells =
      let before = told_by bodies checkpoint told now.own now.other _ tells now.own_journal now.other_journal
      (second_first (checkpoint + 1) (past checkpoint now.own) (past checkpoint now.other) now.takes.rises) in
      let all = told_push checkpoint end now.own now.other now.takes told (end + 1, entry) refl before in
      let turned = subst (AreTold checkpoint (told ++ entry ∷ [])) (sym (second_first (checkpoint + 1)
      (past checkpoint (now.own ++ (end + 1, entry) ∷ [])) (past checkpoint now.other) all.0)) all in
      record {
        entries_0 = now.own ++ (end + 1, entry) ∷ [];
        entries_1 = now.other;
        first_journal = journal_push (bodies 0) now.own body (end + 1, entry) now.own_journal now.takes.next spelled;
        second_journal = now.other_journal;
        rises = turned.0;
        entries = turned.1;
      }

  -- on the second journal
  told_second : IsCurrent bodies checkpoint end 1 → TellsEntries bodies checkpoint told →
      TellsEntries (with_body bodies 1 body) checkpoint (told ++ entry ∷ [])
  told_second now tells =
      let before = told_by bodies checkpoint told now.other now.own _ tells now.other_journal now.own_journal
      (first_first (checkpoint + 1) (past checkpoint now.own) (past checkpoint now.other) now.takes.rises) in
      let all = told_push checkpoint end now.own now.other now.takes told (end + 1, entry) refl before in
      let turned = subst (AreTold checkpoint (told ++ entry ∷ [])) (sym (first_first (checkpoint + 1)
      (past checkpoint (now.own ++ (end + 1, entry) ∷ [])) (past checkpoint now.other) all.0)) all in
      record {
        entries_0 = now.other;
        entries_1 = now.own ++ (end + 1, entry) ∷ [];
        first_journal = now.other_journal;
        second_journal = journal_push (bodies 1) now.own body (end + 1, entry) now.own_journal now.takes.next spelled;
        rises = turned.0;
        entries = turned.1;
      }

  -- the current journal stays the one that it was
  current_push : (file : ℕ) → IsCurrent bodies checkpoint end file →
      bodies file ++ body ∷ [] ≡ with_body bodies file body file →
      bodies (1 - file) ≡ with_body bodies file body (1 - file) →
      IsCurrent (with_body bodies file body) checkpoint (end + 1) file
  current_push file now longer same = record {
    own = now.own ++ (end + 1, entry) ∷ [];
    other = now.other;
    journal = now.journal;
    own_journal = same_journal _ (with_body bodies file body file) (now.own ++ (end + 1, entry) ∷ []) longer
        (journal_push (bodies file) now.own body (end + 1, entry) now.own_journal now.takes.next spelled);
    other_journal = same_journal _ (with_body bodies file body (1 - file)) now.other same now.other_journal;
    takes = takes_push checkpoint end now.own now.other now.takes (end + 1, entry) refl;
  }

module _ (files : Files) (bodies : Bodies) (h : History) (m : ℕ) (body : List ℕ) (entry : Entry)
    (are : AreEntries (front h) m (entry ∷ [])) (spelled : SpellsEntry body (front h + 1) entry) where
  -- what is told with one more entry, with the root as it was
  tells_push : (file : ℕ) (t : Tells files bodies h m) → bodies 2 ≡ with_body bodies file body 2 →
      bodies 3 ≡ with_body bodies file body 3 →
      TellsEntries (with_body bodies file body) h.base.front (h.entries ++ entry ∷ []) →
      Tells files (with_body bodies file body) (with_entry h entry) (merge_after m (entry ∷ []))
  tells_push file t two three told = record {
    root = t.root;
    newest = same_root bodies (with_body bodies file body) t.root two three t.newest;
    base = t.base;
    entries = subst (λ n. TellsEntries (with_body bodies file body) n (h.entries ++ entry ∷ [])) t.base.front told;
    rules = rules_push t.root.checkpoint t.root.merge h.entries entry t.rules
        (subst₂ (λ at low. AreEntries (at + length h.entries) low (entry ∷ [])) t.base.front t.merged are);
    merged = ap (λ low. merge_after low (entry ∷ [])) t.merged
        ∙ sym (merge_after_push t.root.merge h.entries entry);
    horizon = omega (arith, t.horizon, merge_rises (front h) m entry are);
  }

  told_next : (file : ℕ) → TellsAt files bodies file h m →
      TellsAt files (with_body bodies file body) file (with_entry h entry) (merge_after m (entry ∷ []))
  told_next zero t =
      let before = subst (λ n. TellsEntries bodies n h.entries) (sym t.tells.base.front) t.tells.entries in
      let more = told_first bodies h.base.front (front h) h.entries body entry spelled t.current before in
      let now = current_push bodies h.base.front (front h) h.entries body entry spelled 0 t.current refl refl in
      record {
        tells = tells_push 0 t.tells refl refl more;
        current = subst (λ n. IsCurrent (with_body bodies 0 body) h.base.front n 0) (sym (front_push h entry)) now;
      }
  told_next (suc zero) t =
      let before = subst (λ n. TellsEntries bodies n h.entries) (sym t.tells.base.front) t.tells.entries in
      let more = told_second bodies h.base.front (front h) h.entries body entry spelled t.current before in
      let now = current_push bodies h.base.front (front h) h.entries body entry spelled 1 t.current refl refl in
      record {
        tells = tells_push 1 t.tells refl refl more;
        current = subst (λ n. IsCurrent (with_body bodies 1 body) h.base.front n 1) (sym (front_push h entry)) now;
      }
  told_next (suc (suc file)) t = absurd (omega (arith, t.current.journal))

pub another_entry_is_told : AnotherEntryIsTold
another_entry_is_told files bodies file h m body entry told spelled are =
    told_next files bodies h m body entry are spelled file told

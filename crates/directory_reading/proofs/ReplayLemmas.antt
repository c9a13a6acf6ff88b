-- What two journals hold past a checkpoint.
use Rattle.std.proofs.Common.{◌≡◌, ◌≢◌, ◌∙◌, ◌≤◌, ◌+◌, ℕ, zero, suc, Bool, true, false, cond, List, [], ◌∷◌, ◌++◌, Result, Ok, Err, MatchResult, inl, inr, refl, sym, ap, subst, length, map, nat_eq, arith, Option, option_map}
use Rattle.std.specs.List.{AllByRecursion, AllZip}
use Rattle.std.proofs.lemmas.List.Elements.{All-from_recursion}
use Rattle.doc_meaning.specs.History.{AreEntries, merge_after}
use Rattle.journal_bodies.specs.Entries.{SpellsEntry}
use Rattle.journal_bodies.specs.Roots.{PlainRoot}
use Rattle.directory_meaning.specs.Bodies.{Bodies, Numbered, RiseFrom, last_of, other_of, own_of, past}
use Rattle.directory_meaning.specs.Current.{Chooses, GoesOn}
use Rattle.directory_meaning.specs.Damages.{BreaksTurn}
use Rattle.directory_reading.specs.Reading.{HasEntries, Replays, frozen_of}
use Rattle.directory_reading.specs.Unread.{IsUnread}
use Rattle.directory_reading.specs.Walking.{CanWalk, ComesLast, IsKept, ReplaysBoth, StopsIn}
use Rattle.directory_reading.specs.declared.entries.EntriesRead.{EntriesRead}
use Rattle.directory_reading.specs.declared.replay.Frozen.{Frozen}
use Rattle.directory_reading.specs.declared.replay.Replay.{Replay}
use Rattle.directory_reading.specs.declared.unread.LogBad.{LogBad}
use Rattle.directory_reading.proofs.EntryLemmas.{unread}
use Rattle.directory_reading.proofs.GateLemmas.{zip_length}
use Rattle.directory_reading.proofs.NumberLemmas.{reaches, rises_behind}
use Rattle.directory_reading.proofs.TurnLemmas.{stops_by_first, stops_by_second}

-- what holds of either
pub either : {X : Type 0} (P : X → Type 0) (b : Bool) (x y : X) → P x → P y → P (cond b x y)
either P true x y p q = p
either P false x y p q = q

-- the numbers of these entries rise
abbrev Rise : List Numbered → Type 0
Rise es = (n : ℕ) × RiseFrom n es

kept_each : (bodies : List (List ℕ)) (es : List Numbered) → AllZip (λ body e. SpellsEntry body e.0 e.1) bodies es
    → AllByRecursion IsKept es
kept_each [] [] z = tt
kept_each [] (e ∷ es) z = absurd z
kept_each (b ∷ bodies) [] z = absurd z
kept_each (b ∷ bodies) (e ∷ es) z = ((z.0.rules, z.0.values), kept_each bodies es z.1)

-- what was read of a journal can be walked
pub can_walk : (bodies : List (List ℕ)) (read : EntriesRead) → HasEntries bodies read → CanWalk read
can_walk bodies read has = record {
  kept = All-from_recursion IsKept read.entries.items (kept_each bodies read.entries.items has.journal.spelled);
  gates = has.gates ∙ zip_length (λ body e. SpellsEntry body e.0 e.1) bodies read.entries.items has.journal.spelled;
}

goes_on : (c : ℕ) (own other : List Numbered) → Rise own → past c own ≢ []
    → RiseFrom (c + 1) (past c other ++ past c own) → GoesOn c own other
goes_on c own other j some r =
    let behind = rises_behind (c + 1) (c + 1 + length (past c other)) (past c other) (past c own) r refl in
    let end = reaches c j.0 (c + 1 + length (past c other)) own j.1 some behind in
    (some, record { rises = r; reaches = refl; next = inr (j.0, j.1, omega (arith, end)) })

-- the next entry goes to the journal that comes last
chooses_last : (root : PlainRoot) (entries_0 entries_1 : List Numbered) (file : ℕ) (replay : Replay) → Rise entries_0
    → Rise entries_1 → ComesLast root.checkpoint entries_0 entries_1 file
    → ReplaysBoth root file (other_of file entries_0 entries_1) (own_of file entries_0 entries_1) replay
    → Chooses root.checkpoint entries_0 entries_1 replay.current replay.resets_first
chooses_last root entries_0 entries_1 file replay r s last t =
    let goes : GoesOn root.checkpoint (own_of file entries_0 entries_1) (other_of file entries_0 entries_1) =
    goes_on root.checkpoint (own_of file entries_0 entries_1) (other_of file entries_0 entries_1)
    (either Rise (nat_eq file 0) entries_0 entries_1 r s) last.some t.read.rises in
    record {
      journal = omega (arith, t.goes_to, last.journal);
      next = inl (
        t.stays,
        subst (λ (f : ℕ). GoesOn root.checkpoint (own_of f entries_0 entries_1) (other_of f entries_0 entries_1))
            (sym t.goes_to) goes,
      );
    }

replays_both : (root : PlainRoot) (entries_0 entries_1 : List Numbered) (file : ℕ) (replay : Replay) → Rise entries_0
    → Rise entries_1 → ComesLast root.checkpoint entries_0 entries_1 file
    → ReplaysBoth root file (other_of file entries_0 entries_1) (own_of file entries_0 entries_1) replay
    → Replays root entries_0 entries_1 replay
replays_both root entries_0 entries_1 file replay r s last t = record {
  entries = t.all ∙ sym last.turn;
  rises = subst (RiseFrom (root.checkpoint + 1)) (sym t.all) t.read.rises;
  rules =
      subst (λ (l : List Numbered). AreEntries root.checkpoint root.merge (map (λ e. e.1) l)) (sym t.all) t.read.rules;
  merge =
      t.merged ∙ t.read.merges ∙ ap (λ (l : List Numbered). merge_after root.merge (map (λ e. e.1) l)) (sym t.all);
  current = chooses_last root entries_0 entries_1 file replay r s last t;
  frozen =
      t.last
      ∙ ap (λ (f : ℕ). frozen_of root.merge (past root.checkpoint (other_of f entries_0 entries_1))) (sym t.goes_to);
}

module _ (bodies : Bodies) (root : PlainRoot) (first second : EntriesRead) (zeros : HasEntries (bodies 0) first)
    (ones : HasEntries (bodies 1) second) where
  abbrev Answers : Result Replay LogBad → Type 0
  Answers r = MatchResult r (Replays root first.entries.items second.entries.items) (IsUnread (BreaksTurn bodies root))

  rise_0 : Rise first.entries.items
  rise_0 = (zeros.journal.from, zeros.journal.rises)

  rise_1 : Rise second.entries.items
  rise_1 = (ones.journal.from, ones.journal.rises)

  -- both journals are replayed, or an entry stops their reading
  pub by_first : (r : Result Replay LogBad) → ComesLast root.checkpoint first.entries.items second.entries.items 0 →
      MatchResult r (ReplaysBoth root 0 second.entries.items first.entries.items)
      (IsUnread (StopsIn root 0 second first)) → Answers r
  by_first (Ok replay) last m =
      replays_both root first.entries.items second.entries.items 0 replay rise_0 rise_1 last m
  by_first (Err why) last m = unread (StopsIn root 0 second first) (BreaksTurn bodies root)
      (stops_by_first bodies root first second zeros ones last) why m

  pub by_second : (r : Result Replay LogBad) → ComesLast root.checkpoint first.entries.items second.entries.items 1 →
      MatchResult r (ReplaysBoth root 1 first.entries.items second.entries.items)
      (IsUnread (StopsIn root 1 first second)) → Answers r
  by_second (Ok replay) last m =
      replays_both root first.entries.items second.entries.items 1 replay rise_0 rise_1 last m
  by_second (Err why) last m = unread (StopsIn root 1 first second) (BreaksTurn bodies root)
      (stops_by_second bodies root first second zeros ones last) why m

-- the journal that comes last, from lists that were lent
pub last_lent : (c : ℕ) (entries_0 entries_1 lent_0 lent_1 : List Numbered) (file : ℕ) → lent_0 ≡ entries_0
    → lent_1 ≡ entries_1
    → ComesLast c lent_0 lent_1 file → ComesLast c entries_0 entries_1 file
last_lent c entries_0 entries_1 lent_0 lent_1 file z o last =
    subst (λ (l : List Numbered). ComesLast c l entries_1 file) z
    (subst (λ (l : List Numbered). ComesLast c lent_0 l file) o last)

-- of two journals the one that isn't the first
pub the_second : (file : ℕ) → file ≤ 1 → (file ≡ 0 → ⊥) → file ≡ 1
the_second zero low other = absurd (other refl)
the_second (suc zero) low other = refl
the_second (suc (suc n)) low other = absurd (omega arith)

-- the end of the entries past a checkpoint that were replayed, from a list that was lent
pub frozen_past : (root : PlainRoot) (lent entries : List Numbered) (merge : ℕ) (last : Option ℕ)
    (frozen : Option Frozen) →
    frozen ≡ option_map (λ entry. record { entry = entry; merge = merge }) last →
    last ≡ last_of (past root.checkpoint lent) → lent ≡ entries →
    merge ≡ merge_after root.merge (map (λ e. e.1) (past root.checkpoint entries)) →
    frozen ≡ frozen_of root.merge (past root.checkpoint entries)
frozen_past root lent entries merge last frozen is ends same merges =
    is
    ∙ ap (λ (m : ℕ). option_map (λ entry. record { entry = entry; merge = m }) last) merges
    ∙ ap (option_map (λ entry. record {
      entry = entry;
      merge = merge_after root.merge (map (λ e. e.1) (past
          root.checkpoint entries));
    })) (ends ∙ ap (λ (l : List Numbered). last_of (past root.checkpoint l)) same)

-- What journals break together, and with the root, they break at one place.
use Rattle.std.proofs.Common.{◌≡◌, ◌⊎◌, inl, inr, ℕ, ◌+◌, ◌<◌, List, ◌++◌, length, sym, ap₂, ◌∙◌, subst, subst₂, arith}
use Rattle.doc_model.specs.declared.entry.Entry.{Entry}
use Rattle.doc_meaning.specs.History.{AreEntries}
use Rattle.journal_bodies.specs.Roots.{PlainRoot}
use Rattle.directory_meaning.specs.Bodies.{Bodies, Numbered, SpellEntries, TellsEntries, by_first_number, past}
use Rattle.directory_meaning.specs.Damages.{BreaksTurn, DoNotFit, IsBelowHorizon, IsFound, gate_of}
use Rattle.directory_meaning.proofs.OneLemmas.{newest_is_one, one_journal, one_root_log}
use Rattle.directory_meaning.proofs.TurnLemmas.{Follow, Misplaced, none_misplaced, one_misplaced}

-- ---- the root's place

-- the root is in this root log at this place, after so many others
abbrev LiesAt : List PlainRoot → ℕ → ℕ → ℕ → Type 0
LiesAt roots_0 file k before =
    ((file ≡ 2) × (k ≡ before) × (k < length roots_0)) ⊎ ((file ≡ 3) × (length roots_0 + k ≡ before))

one_found : (roots_0 roots_1 : List PlainRoot) (root : PlainRoot) (file other k j : ℕ) →
    IsFound roots_0 roots_1 root file k → IsFound roots_0 roots_1 root other j → (file ≡ other) × (k ≡ j)
one_found roots_0 roots_1 root file other k j f g = go f.here g.here
  where
    same : length f.newest.before ≡ length g.newest.before
    same = (newest_is_one (roots_0 ++ roots_1) root root f.newest g.newest).1

    go : LiesAt roots_0 file k (length f.newest.before) → LiesAt roots_0 other j (length g.newest.before) →
        (file ≡ other) × (k ≡ j)
    go (inl this) (inl that) = (this.0 ∙ sym that.0, omega (arith, this.1, that.1, same))
    go (inl this) (inr that) = absurd (omega (arith, this.1, this.2, that.1, same))
    go (inr this) (inl that) = absurd (omega (arith, this.1, that.1, that.2, same))
    go (inr this) (inr that) = (this.0 ∙ sym that.0, omega (arith, this.1, that.1, same))

-- ---- both journals

-- what journals tell follows the root
pub told_follow : (bodies : Bodies) (root : PlainRoot) (told : List Entry)
    (t : TellsEntries bodies root.checkpoint told) → AreEntries root.checkpoint root.merge told →
    Follow root (by_first_number (past root.checkpoint t.entries_0) (past root.checkpoint t.entries_1))
told_follow bodies root told t are =
    record { rises = t.rises; rules = subst (AreEntries root.checkpoint root.merge) t.entries are }

module _ (bodies : Bodies) (root : PlainRoot) where
  -- entries that follow the root aren't misplaced
  pub no_turn_broken : (file place : ℕ) (entries_0 entries_1 : List Numbered) → BreaksTurn bodies root file place →
      SpellEntries (bodies 0) entries_0 → SpellEntries (bodies 1) entries_1 →
      Follow root (by_first_number (past root.checkpoint entries_0) (past root.checkpoint entries_1)) → ⊥
  no_turn_broken file place entries_0 entries_1 b spelled_0 spelled_1 follow =
      let zeros = one_journal (bodies 0) b.entries_0 entries_0 b.first_journal.spelled spelled_0 in
      let ones = one_journal (bodies 1) b.entries_1 entries_1 b.second_journal.spelled spelled_1 in
      none_misplaced root entries_0 entries_1 file b.k b.journal
      (subst₂ (λ zeros ones. Misplaced root zeros ones file b.k) zeros ones b.misplaced) follow

  turn_once : (file other place to : ℕ) → BreaksTurn bodies root file place → BreaksTurn bodies root other to →
      (file ≡ other) × (place ≡ to)
  turn_once file other place to a b =
      let zeros = one_journal (bodies 0) a.entries_0 b.entries_0 a.first_journal.spelled b.first_journal.spelled in
      let ones = one_journal (bodies 1) a.entries_1 b.entries_1 a.second_journal.spelled b.second_journal.spelled in
      let same = one_misplaced root b.entries_0 b.entries_1 file other a.k b.k a.journal b.journal
      (subst₂ (λ zeros ones. Misplaced root zeros ones file a.k) zeros ones a.misplaced) b.misplaced in
      (same.0, a.placed ∙ ap₂ (λ log k. gate_of (bodies log) k) same.0 same.1 ∙ sym b.placed)

  horizon_once : (file other place to : ℕ) → IsBelowHorizon bodies root file place →
      IsBelowHorizon bodies root other to → (file ≡ other) × (place ≡ to)
  horizon_once file other place to a b =
      let these = a.newest in
      let those = b.newest in
      let first = one_root_log (bodies 2) these.roots_0 those.roots_0 these.first_log those.first_log in
      let second = one_root_log (bodies 3) these.roots_1 those.roots_1 these.second_log those.second_log in
      let same = one_found those.roots_0 those.roots_1 root file other a.k b.k
      (subst₂ (λ rs ss. IsFound rs ss root file a.k) first second these.found) those.found in
      (same.0, a.placed ∙ ap₂ (λ log k. gate_of (bodies log) k) same.0 same.1 ∙ sym b.placed)

  turn_or_horizon : (file other place to : ℕ) → BreaksTurn bodies root file place →
      IsBelowHorizon bodies root other to → ⊥
  turn_or_horizon file other place to a b = no_turn_broken file place b.entries.entries_0 b.entries.entries_1 a
      b.entries.first_journal.spelled b.entries.second_journal.spelled
      (told_follow bodies root b.told b.entries b.rules)

  -- journals that don't fit show it at one place
  pub one_misfit : (file other place to : ℕ) → DoNotFit bodies root file place → DoNotFit bodies root other to →
      (file ≡ other) × (place ≡ to)
  one_misfit file other place to (inl a) (inl b) = turn_once file other place to a b
  one_misfit file other place to (inl a) (inr b) = absurd (turn_or_horizon file other place to a b)
  one_misfit file other place to (inr a) (inl b) = absurd (turn_or_horizon other file to place b a)
  one_misfit file other place to (inr a) (inr b) = horizon_once file other place to a b

-- Root logs and journals: valid bodies aren't invalid, and an invalid body is so at one place.
use Rattle.std.proofs.Common.{◌≡◌, ℕ, suc, ◌+◌, ◌-◌, List, [], ◌∷◌, ◌++◌, length, Some, option_map, slice_get, Result, Ok, Err, refl, sym, ap, ◌∙◌, subst, arith}
use Rattle.std.specs.Prelude.{IsTrue}
use Rattle.std.specs.List.{AllZip}
use Rattle.std.proofs.lemmas.Bool.{eq-eqb}
use Rattle.journal_bodies.proofs.EntryPlaces.{entries_are_read}
use Rattle.journal_bodies.proofs.RootPlaces.{roots_are_read}
use Rattle.journal_bodies.proofs.Truths.{is_true}
use Rattle.journal_bodies.specs.Answers.{entry_of, root_of}
use Rattle.journal_bodies.specs.Entries.{SpellsEntry}
use Rattle.journal_bodies.specs.EntryReading.{is_expected}
use Rattle.journal_bodies.specs.Roots.{SpellsRoot}
use Rattle.directory_meaning.specs.Bodies.{Numbered, RiseFrom}
use Rattle.directory_meaning.specs.Damages.{AreEntryBodies, AreRootBodies, IsBadEntry, IsBadRoot, IsEntryLog, IsRootLog, JournalBreaks, RootLogBreaks, next_number}
use Rattle.directory_meaning.proofs.LogLemmas.{one_break, valid_log}
use Rattle.directory_meaning.proofs.OneLemmas.{one_journal}
use Rattle.directory_meaning.proofs.Rising.{rise_head, rise_tail}

ok_err : {X : Type 0} (x : X) (at : ℕ) (r : Result X ℕ) → r ≡ Ok x → r ≡ Err at → ⊥
ok_err x at r good bad = cc

same_err : {X : Type 0} (at to : ℕ) (r : Result X ℕ) → r ≡ Err at → r ≡ Err to → at ≡ to
same_err at to r this that = cc

-- what these bodies spell, split at one of them
record SplitsAt {X : Type 0} (R : List ℕ → X → Type 0) (before : List (List ℕ)) (body : List ℕ) (all : List X)
    : Type 0 where
  pub first : List X
  pub here : X
  pub more : List X
  pub whole : all ≡ first ++ here ∷ more
  pub earlier : AllZip R before first
  pub this : R body here

split_at : {X : Type 0} (R : List ℕ → X → Type 0) (before : List (List ℕ)) (body : List ℕ) (behind : List (List ℕ))
    (all : List X) → AllZip R (before ++ body ∷ behind) all → SplitsAt R before body all
split_at R [] body behind [] zip = absurd zip
split_at R [] body behind (x ∷ all) zip =
    record { first = []; here = x; more = all; whole = refl; earlier = tt; this = zip.0 }
split_at R (b ∷ before) body behind [] zip = absurd zip
split_at R (b ∷ before) body behind (x ∷ all) zip =
    let rest = split_at R before body behind all zip.1 in
    record {
      first = x ∷ rest.first;
      here = rest.here;
      more = rest.more;
      whole = ap (λ l. x ∷ l) rest.whole;
      earlier = (zip.0, rest.earlier);
      this = rest.this;
    }

-- ---- roots

pub root_stops : (before : List (List ℕ)) (body : List ℕ) (more : List (List ℕ)) (at : ℕ) →
    AreRootBodies (before ++ body ∷ more) → IsBadRoot before body at → ⊥
root_stops before body more at valid bad =
    let split = split_at SpellsRoot before body more valid.0 valid.1 in
    ok_err split.here at (root_of body) (roots_are_read body split.here split.this) bad

pub one_bad_root : (before : List (List ℕ)) (body : List ℕ) (at to : ℕ) → IsBadRoot before body at →
    IsBadRoot before body to → at ≡ to
one_bad_root before body at to a b = same_err at to (root_of body) a b

pub root_log_is_whole : (bytes : List ℕ) (place : ℕ) → IsRootLog bytes → RootLogBreaks bytes place → ⊥
root_log_is_whole bytes place log broken =
    valid_log AreRootBodies IsBadRoot root_stops log.0 bytes place log.1 log.2 broken

pub root_log_breaks_once : (bytes : List ℕ) (at to : ℕ) → RootLogBreaks bytes at → RootLogBreaks bytes to → at ≡ to
root_log_breaks_once bytes at to a b = one_break AreRootBodies IsBadRoot root_stops one_bad_root bytes at to a b

-- ---- entries

-- the number behind entries whose numbers rise by one
next_is : (n : ℕ) (x : Numbered) (es : List Numbered) (e : Numbered) (more : List Numbered) →
    RiseFrom n ((x ∷ es) ++ e ∷ more) → next_number (x ∷ es) ≡ Some e.0
next_is n x [] e more rises =
    let this : x.0 ≡ n = rise_head n x (e ∷ more) rises in
    let next : e.0 ≡ n + 1 = rise_head (n + 1) e more (rise_tail n x (e ∷ more) rises) in
    let same : x.0 + 1 ≡ e.0 = omega (arith, this, next) in
    ap (λ (k : ℕ). Some k) same
next_is n x (y ∷ es) e more rises =
    let step : length (x ∷ y ∷ es) - 1 ≡ suc (length (y ∷ es) - 1) = omega arith in
    ap (λ k. option_map (λ (m : ℕ). m + 1) (option_map (λ (d : Numbered). d.0) (slice_get (x ∷ y ∷ es) k))) step
    ∙ next_is (n + 1) y es e more (rise_tail n x ((y ∷ es) ++ e ∷ more) rises)

next_expected : (n : ℕ) (es : List Numbered) (e : Numbered) (more : List Numbered) → RiseFrom n (es ++ e ∷ more) →
    IsTrue (is_expected (next_number es) e.0)
next_expected n [] e more rises = refl
next_expected n (x ∷ es) e more rises = subst (λ wanted. IsTrue (is_expected wanted e.0))
    (sym (next_is n x es e more rises)) (is_true _ (eq-eqb e.0 e.0 refl))

pub entry_stops : (before : List (List ℕ)) (body : List ℕ) (more : List (List ℕ)) (at : ℕ) →
    AreEntryBodies (before ++ body ∷ more) → IsBadEntry before body at → ⊥
entry_stops before body more at valid bad =
    let split = split_at (λ b (e : Numbered). SpellsEntry b e.0 e.1) before body more valid.0 valid.1.spelled in
    let e = split.here in
    let next = next_expected valid.1.from split.first e split.more
    (subst (RiseFrom valid.1.from) split.whole valid.1.rises) in
    let same = one_journal before split.first bad.0 split.earlier bad.1.spelled in
    ok_err e at (entry_of (next_number bad.0) body) (entries_are_read (next_number bad.0) body e.0 e.1 split.this
    (subst (λ es. IsTrue (is_expected (next_number es) e.0)) same next)) bad.2

pub one_bad_entry : (before : List (List ℕ)) (body : List ℕ) (at to : ℕ) → IsBadEntry before body at →
    IsBadEntry before body to → at ≡ to
one_bad_entry before body at to a b =
    let same = one_journal before a.0 b.0 a.1.spelled b.1.spelled in
    same_err at to (entry_of (next_number b.0) body)
    (subst (λ es. entry_of (next_number es) body ≡ Err at) same a.2) b.2

pub journal_is_whole : (bytes : List ℕ) (place : ℕ) → IsEntryLog bytes → JournalBreaks bytes place → ⊥
journal_is_whole bytes place log broken =
    valid_log AreEntryBodies IsBadEntry entry_stops log.0 bytes place log.1 log.2 broken

pub journal_breaks_once : (bytes : List ℕ) (at to : ℕ) → JournalBreaks bytes at → JournalBreaks bytes to → at ≡ to
journal_breaks_once bytes at to a b =
    one_break AreEntryBodies IsBadEntry entry_stops one_bad_entry bytes at to a b

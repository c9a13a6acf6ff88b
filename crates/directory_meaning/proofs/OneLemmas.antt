-- The bytes of the logs say one root and one list of entries.
use Rattle.std.proofs.Common.{◌≡◌, ℕ, ◌<◌, ◌≤◌, List, [], ◌∷◌, ◌++◌, length, map, All, None, Ok, refl, sym, ap, ap₂, ◌∙◌, subst, arith}
use Rattle.std.proofs.lemmas.List.Elements.{All-contains, All-head, All-same, All-tail, Contains-append_right}
use Rattle.std.specs.List.{AllZip}
use Rattle.disk_model.specs.Logs.{Image}
use Rattle.doc_model.specs.declared.entry.Entry.{Entry}
use Rattle.frame_log.proofs.OneLemmas.{frames_are_one}
use Rattle.journal_bodies.proofs.EntryPlaces.{entries_are_read}
use Rattle.journal_bodies.proofs.RootPlaces.{roots_are_read}
use Rattle.journal_bodies.specs.Answers.{entry_of}
use Rattle.journal_bodies.specs.Entries.{SpellsEntry}
use Rattle.journal_bodies.specs.Roots.{PlainRoot, SpellsRoot}
use Rattle.directory_meaning.specs.Bodies.{AreRoots, Bodies, HasBodies, IsJournal, IsNewest, Numbered, SpellEntries, TellsEntries, TellsRoot, by_first_number, past}
use Rattle.directory_meaning.specs.declared.logs.TheConstants.{DIRECTORY_LOGS}

-- a body spells one entry
one_entry : (body : List ℕ) (e f : Numbered) → SpellsEntry body e.0 e.1 → SpellsEntry body f.0 f.1 → e ≡ f
one_entry body e f one other =
    let this : entry_of None body ≡ Ok e = entries_are_read None body e.0 e.1 one refl in
    let that : entry_of None body ≡ Ok f = entries_are_read None body f.0 f.1 other refl in
    cc

pub one_root : (body : List ℕ) (r s : PlainRoot) → SpellsRoot body r → SpellsRoot body s → r ≡ s
one_root body r s one other =
    let this = roots_are_read body r one in
    let that = roots_are_read body s other in
    cc

-- bodies spell one list
pub one_list : {X : Type 0} (R : List ℕ → X → Type 0) → ((body : List ℕ) (x y : X) → R body x → R body y → x ≡ y) →
    (bodies : List (List ℕ)) (xs ys : List X) → AllZip R bodies xs → AllZip R bodies ys → xs ≡ ys
one_list R one [] [] [] some others = refl
one_list R one [] [] (y ∷ ys) some others = absurd others
one_list R one [] (x ∷ xs) ys some others = absurd some
one_list R one (body ∷ bodies) [] ys some others = absurd some
one_list R one (body ∷ bodies) (x ∷ xs) [] some others = absurd others
one_list R one (body ∷ bodies) (x ∷ xs) (y ∷ ys) some others =
    let first = one body x y some.0 others.0 in
    let rest = one_list R one bodies xs ys some.1 others.1 in
    cc

pub one_journal : (bodies : List (List ℕ)) (es fs : List Numbered) → SpellEntries bodies es →
    SpellEntries bodies fs → es ≡ fs
one_journal bodies es fs = one_list (λ body (e : Numbered). SpellsEntry body e.0 e.1) one_entry bodies es fs

pub one_root_log : (bodies : List (List ℕ)) (rs ss : List PlainRoot) → AreRoots bodies rs →
    AreRoots bodies ss → rs ≡ ss
one_root_log bodies rs ss some others = one_list SpellsRoot one_root bodies rs ss some others

-- what holds of each holds of one behind others
pub all_at : {X : Type 0} (P : X → Type 0) (xs before behind : List X) (x : X) → xs ≡ before ++ x ∷ behind →
    All P xs → P x
all_at P xs before behind x is all =
    All-contains P (before ++ x ∷ behind) x (All-same P (before ++ x ∷ behind) xs (sym is) all)
    (Contains-append_right before (x ∷ behind) x (0, (omega arith), refl))

-- a root that is greater than all before it and no less than all behind it is one, at one place
newest_same : (a b c d : List PlainRoot) (r s : PlainRoot) → a ++ r ∷ c ≡ b ++ s ∷ d →
    All (λ q. q.number < r.number) a → All (λ q. q.number ≤ r.number) c →
    All (λ q. q.number < s.number) b → All (λ q. q.number ≤ s.number) d → (r ≡ s) × (length a ≡ length b)
newest_same [] [] c d r s is early late earlier later = (cc, refl)
newest_same [] (y ∷ b) c d r s is early late earlier later =
    let first : r ≡ y = cc in
    let rest : c ≡ b ++ s ∷ d = cc in
    let below : y.number < s.number = All-head (λ q. q.number < s.number) y b earlier in
    let above : s.number ≤ r.number = all_at (λ q. q.number ≤ r.number) c b d s rest late in
    absurd (omega (arith, ap (λ (q : PlainRoot). q.number) first))
newest_same (x ∷ a) [] c d r s is early late earlier later =
    let first : s ≡ x = cc in
    let rest : d ≡ a ++ r ∷ c = cc in
    let below : x.number < r.number = All-head (λ q. q.number < r.number) x a early in
    let above : r.number ≤ s.number = all_at (λ q. q.number ≤ s.number) d a c r rest later in
    absurd (omega (arith, ap (λ (q : PlainRoot). q.number) first))
newest_same (x ∷ a) (y ∷ b) c d r s is early late earlier later =
    let rest = newest_same a b c d r s (cc) (All-tail (λ q. q.number < r.number) x a early) late
    (All-tail (λ q. q.number < s.number) y b earlier) later in
    (rest.0, omega (arith, rest.1))

pub newest_is_one : (rs : List PlainRoot) (r s : PlainRoot) (one : IsNewest rs r) (other : IsNewest rs s) →
    (r ≡ s) × (length one.before ≡ length other.before)
newest_is_one rs r s one other =
    newest_same one.before other.before one.behind other.behind r s (sym one.whole ∙ other.whole)
    one.earlier one.later other.earlier other.later

-- root logs tell one root
pub one_root_told : (bodies : Bodies) (r s : PlainRoot) → TellsRoot bodies r → TellsRoot bodies s → r ≡ s
one_root_told bodies r s one other =
    let first = one_root_log (bodies 2) one.roots_0 other.roots_0 one.first_log other.first_log in
    let second = one_root_log (bodies 3) one.roots_1 other.roots_1 one.second_log other.second_log in
    let all : one.roots_0 ++ one.roots_1 ≡ other.roots_0 ++ other.roots_1 = cc in
    (newest_is_one (other.roots_0 ++ other.roots_1) r s (subst (λ rs. IsNewest rs r) all one.newest) other.newest).0

-- journals tell one list of entries
pub one_list_told : (bodies : Bodies) (checkpoint : ℕ) (es fs : List Entry) → TellsEntries bodies checkpoint es →
    TellsEntries bodies checkpoint fs → es ≡ fs
one_list_told bodies checkpoint es fs one other =
    let first =
    one_journal (bodies 0) one.entries_0 other.entries_0 one.first_journal.spelled other.first_journal.spelled in
    let second =
    one_journal (bodies 1) one.entries_1 other.entries_1 one.second_journal.spelled other.second_journal.spelled in
    one.entries
    ∙ ap₂ (λ a b. map (λ (e : Numbered). e.1) (by_first_number (past checkpoint a) (past checkpoint b))) first second
    ∙ sym other.entries

-- the logs of an image have one list of frames each
pub one_frames : (some others : Bodies) (image : Image) (file : ℕ) → HasBodies some image → HasBodies others image →
    file < DIRECTORY_LOGS → some file ≡ others file
one_frames some others image file one other known =
    frames_are_one (some file) (others file) (image file) (one file known) (other file known)

-- where the bodies of each log are the same, what one tells the other tells
pub same_root : (some others : Bodies) (r : PlainRoot) → some 2 ≡ others 2 → some 3 ≡ others 3 →
    TellsRoot some r → TellsRoot others r
same_root some others r first second told = record {
  roots_0 = told.roots_0;
  roots_1 = told.roots_1;
  first_log = subst (λ b. AreRoots b told.roots_0) first told.first_log;
  second_log = subst (λ b. AreRoots b told.roots_1) second told.second_log;
  newest = told.newest;
}

pub same_journal : (some others : List (List ℕ)) (es : List Numbered) → some ≡ others →
    IsJournal some es → IsJournal others es
same_journal some others es same journal = subst (λ b. IsJournal b es) same journal

pub same_entries : (some others : Bodies) (checkpoint : ℕ) (es : List Entry) → some 0 ≡ others 0 → some 1 ≡ others 1 →
    TellsEntries some checkpoint es → TellsEntries others checkpoint es
same_entries some others checkpoint es first second told = record {
  entries_0 = told.entries_0;
  entries_1 = told.entries_1;
  first_journal = same_journal (some 0) (others 0) told.entries_0 first told.first_journal;
  second_journal = same_journal (some 1) (others 1) told.entries_1 second told.second_journal;
  rises = told.rises;
  entries = told.entries;
}

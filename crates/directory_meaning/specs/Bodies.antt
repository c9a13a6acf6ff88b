-- What the frames of the logs hold: logs 0 and 1 are journals, logs 2 and 3 root logs.
use Rattle.std.specs.Prelude.{ℕ, ◌≡◌, ◌+◌, ◌-◌, ◌<◌, ◌≤◌, ◌==◌, nat_lt, nat_le, List, ◌∷◌, ◌++◌, map, length, filter, slice_get, All, Option, option_map, if◌then◌else◌}
use Rattle.std.specs.List.{AllZip, range_with_len}
use Rattle.disk_model.specs.Logs.{Image}
use Rattle.doc_model.specs.declared.entry.Entry.{Entry}
use Rattle.frame_log.specs.Frames.{HasFrames, MayHave}
use Rattle.journal_bodies.specs.Entries.{SpellsEntry}
use Rattle.journal_bodies.specs.Roots.{PlainRoot, SpellsRoot}
use Rattle.directory_meaning.specs.declared.logs.TheConstants.{DIRECTORY_LOGS}

-- the bodies of the frames of each log
abbrev pub Bodies : Type 0
Bodies = ℕ → List (List ℕ)

-- each log of the image has these frames
abbrev pub HasBodies : Bodies → Image → Type 0
HasBodies bodies image = (file : ℕ) → file < DIRECTORY_LOGS → HasFrames (bodies file) (image file)

-- each log of the image has the frames of `kept`, and perhaps those of `more`
abbrev pub MayHaveBodies : Bodies → Bodies → Image → Type 0
MayHaveBodies kept more image = (file : ℕ) → file < DIRECTORY_LOGS → MayHave (kept file) (more file) (image file)

-- an entry under its number
abbrev pub Numbered : Type 0
Numbered = ℕ × Entry

-- the bodies of a journal are those of these entries
abbrev pub SpellEntries : List (List ℕ) → List Numbered → Type 0
SpellEntries bodies entries = AllZip (λ body e. SpellsEntry body e.0 e.1) bodies entries

-- their numbers are n, n + 1 and so on
abbrev pub RiseFrom : ℕ → List Numbered → Type 0
RiseFrom n entries = map (λ e. e.0) entries ≡ range_with_len n (length entries)

-- a journal has these entries, whose numbers rise by one
pub record IsJournal (bodies : List (List ℕ)) (entries : List Numbered) : Type 0 where
  pub from : ℕ
  pub spelled : SpellEntries bodies entries
  pub rises : RiseFrom from entries

-- the number of the last entry
abbrev pub last_of : List Numbered → Option ℕ
last_of entries = option_map (λ e. e.0) (slice_get entries (length entries - 1))

-- the entries of this journal of two, and those of the other one
abbrev pub own_of : ℕ → List Numbered → List Numbered → List Numbered
own_of file entries_0 entries_1 = if file == 0 then entries_0 else entries_1

abbrev pub other_of : ℕ → List Numbered → List Numbered → List Numbered
other_of file entries_0 entries_1 = own_of file entries_1 entries_0

-- the entries past a checkpoint
abbrev pub past : ℕ → List Numbered → List Numbered
past checkpoint entries = filter (λ e. nat_lt checkpoint e.0) entries

-- the entries of two journals, one journal after the other in the order of their first numbers; the first journal comes
-- first if these are equal
abbrev pub by_first_number : List Numbered → List Numbered → List Numbered
by_first_number (e ∷ zero) (f ∷ one) = if nat_le e.0 f.0 then (e ∷ zero) ++ f ∷ one else (f ∷ one) ++ e ∷ zero
by_first_number zero one = zero ++ one

-- the root with the greatest number, the first of equal ones
pub record IsNewest (roots : List PlainRoot) (root : PlainRoot) : Type 0 where
  pub before : List PlainRoot
  pub behind : List PlainRoot
  pub whole : roots ≡ before ++ root ∷ behind
  pub earlier : All (λ r. r.number < root.number) before
  pub later : All (λ r. r.number ≤ root.number) behind

-- the bodies of a root log are those of these roots
abbrev pub AreRoots : List (List ℕ) → List PlainRoot → Type 0
AreRoots bodies roots = AllZip SpellsRoot bodies roots

-- this is the newest root of the root logs, log 2 before log 3
pub record TellsRoot (bodies : Bodies) (root : PlainRoot) : Type 0 where
  pub roots_0 : List PlainRoot
  pub roots_1 : List PlainRoot
  pub first_log : AreRoots (bodies 2) roots_0
  pub second_log : AreRoots (bodies 3) roots_1
  pub newest : IsNewest (roots_0 ++ roots_1) root

-- the journals tell these entries past the checkpoint, whose numbers rise by one
pub record TellsEntries (bodies : Bodies) (checkpoint : ℕ) (told : List Entry) : Type 0 where
  pub entries_0 : List Numbered
  pub entries_1 : List Numbered
  pub first_journal : IsJournal (bodies 0) entries_0
  pub second_journal : IsJournal (bodies 1) entries_1
  pub rises : RiseFrom (checkpoint + 1) (by_first_number (past checkpoint entries_0) (past checkpoint entries_1))
  pub entries : told ≡ map (λ e. e.1) (by_first_number (past checkpoint entries_0) (past checkpoint entries_1))

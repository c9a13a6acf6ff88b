-- Where the bytes of the logs break a rule. Of two places in one log the earlier one counts.
use Rattle.std.specs.Prelude.{ℕ, ◌≡◌, ◌≢◌, ◌⊎◌, ◌+◌, ◌^◌, ◌<◌, ◌≤◌, Bool, true, false, ◌||◌, ◌&&◌, nat_lt, ◌==◌, List, [], ◌∷◌, ◌++◌, map, length, take, slice_get, Option, option_map, Some, Err, if◌then◌else◌}
use Rattle.disk_model.specs.Logs.{Image}
use Rattle.doc_model.specs.declared.entry.Entry.{Entry}
use Rattle.doc_model.specs.declared.entry.Entry.TheVariants.{Commit, Forget}
use Rattle.doc_meaning.specs.History.{AreEntries, merge_after}
use Rattle.frame_log.specs.Frames.{BeginsWhole, HasFrames, framed, sized}
use Rattle.frame_log.specs.declared.frame.TheConstants.{OPEN}
use Rattle.journal_bodies.specs.Answers.{entry_of, root_of}
use Rattle.journal_bodies.specs.Roots.{PlainRoot, listed, numbers, part, settings}
use Rattle.directory_meaning.specs.Bodies.{AreRoots, Bodies, HasBodies, IsJournal, IsNewest, Numbered, RiseFrom, TellsEntries, TellsRoot, last_of, other_of, own_of, past}

-- the place of the gate of the frame with this number
abbrev pub gate_of : List (List ℕ) → ℕ → ℕ
gate_of bodies k = length (framed (take k bodies))

-- the bytes behind an open gate are a whole frame with this body, and its next gate
pub record HasBody (body bytes : List ℕ) : Type 0 where
  pub gate : ℕ
  pub behind : List ℕ
  pub whole : bytes ≡ sized body ++ gate ∷ behind
  pub fits : length body < 2 ^ 64

-- why the bytes behind the open gate at this place are invalid: no whole frame is there, and the place is the gate's;
-- or its body is invalid, and the place is that in the body, past the gate and the length
abbrev pub BreaksBehind : (List ℕ → ℕ → Type 0) → ℕ → List ℕ → ℕ → Type 0
BreaksBehind Breaks gate bytes place =
    ((BeginsWhole bytes → ⊥) × (place ≡ gate))
    ⊎ ((body : List ℕ) × (at : ℕ) × HasBody body bytes × Breaks body at × (place ≡ gate + 9 + at))

-- after frames with these valid bodies the next one is invalid, at this place, which is before 2^62
pub record BreaksAfter (Valid : List (List ℕ) → Type 0) (Breaks : List (List ℕ) → List ℕ → ℕ → Type 0)
    (bytes : List ℕ) (place : ℕ) : Type 0 where
  pub bodies : List (List ℕ)
  pub behind : List ℕ
  pub valid : Valid bodies
  pub whole : bytes ≡ framed bodies ++ OPEN ∷ behind
  pub breaks : BreaksBehind (Breaks bodies) (length (framed bodies)) behind place
  pub early : place < 2 ^ 62

-- a log breaks a rule at this place: it has no byte, or a frame is invalid, or it is longer than 2^62 bytes
abbrev pub LogBreaks : (List (List ℕ) → Type 0) → (List (List ℕ) → List ℕ → ℕ → Type 0) → List ℕ → ℕ → Type 0
LogBreaks Valid Breaks bytes place =
    ((bytes ≡ []) × (place ≡ 0))
    ⊎ (BreaksAfter Valid Breaks bytes place
    ⊎ ((place ≡ 2 ^ 62) × (2 ^ 62 < length bytes) × ((other : ℕ) → BreaksAfter Valid Breaks bytes other → ⊥)))

-- valid bodies of a root log, and an invalid body at its place
abbrev pub AreRootBodies : List (List ℕ) → Type 0
AreRootBodies bodies = (roots : List PlainRoot) × AreRoots bodies roots

abbrev pub IsBadRoot : List (List ℕ) → List ℕ → ℕ → Type 0
IsBadRoot before body at = root_of body ≡ Err at

-- valid bodies of a journal
abbrev pub AreEntryBodies : List (List ℕ) → Type 0
AreEntryBodies bodies = (entries : List Numbered) × IsJournal bodies entries

-- the number that is to follow these entries: the last one's plus one, or any
abbrev pub next_number : List Numbered → Option ℕ
next_number entries = option_map (λ n. n + 1) (last_of entries)

-- a body that is invalid behind these: its number isn't the next one, or another field is invalid
abbrev pub IsBadEntry : List (List ℕ) → List ℕ → ℕ → Type 0
IsBadEntry before body at =
    (entries : List Numbered) × IsJournal before entries × (entry_of (next_number entries) body ≡ Err at)

-- the bytes of a root log, or of a journal, break a rule at this place
abbrev pub RootLogBreaks : List ℕ → ℕ → Type 0
RootLogBreaks bytes place = LogBreaks AreRootBodies IsBadRoot bytes place

abbrev pub JournalBreaks : List ℕ → ℕ → Type 0
JournalBreaks bytes place = LogBreaks AreEntryBodies IsBadEntry bytes place

-- the bytes of a valid root log, and of a valid journal
abbrev pub IsRootLog : List ℕ → Type 0
IsRootLog bytes = (bodies : List (List ℕ)) × HasFrames bodies bytes × AreRootBodies bodies

abbrev pub IsEntryLog : List ℕ → Type 0
IsEntryLog bytes = (bodies : List (List ℕ)) × HasFrames bodies bytes × AreEntryBodies bodies

-- whether the entries of this journal come before those of the other one
abbrev pub goes_first : ℕ → List Numbered → List Numbered → Bool
goes_first file own [] = true
goes_first file [] (f ∷ other) = false
goes_first file (e ∷ own) (f ∷ other) = nat_lt e.0 f.0 || ((e.0 == f.0) && (file == 0))

-- the entries past a checkpoint that come before the one in this frame of this journal
abbrev pub read_before : ℕ → ℕ → List Numbered → List Numbered → ℕ → List Numbered
read_before checkpoint file own other k =
    (if goes_first file (past checkpoint own) (past checkpoint other) then [] else past checkpoint other)
    ++ past checkpoint (take k own)

-- a forget to below the merge timestamp
abbrev pub IsBelow : ℕ → Entry → Type 0
IsBelow merge (Commit ops) = ⊥
IsBelow merge (Forget to) = to < merge

-- the first entry past the checkpoint whose number isn't the next one, or that forgets to below the merge timestamp
pub record IsMisplaced (root : PlainRoot) (file : ℕ) (own other : List Numbered) (k : ℕ) : Type 0 where
  pub e : Numbered
  pub before : List Numbered
  pub here : slice_get own k ≡ Some e
  pub late : root.checkpoint < e.0
  pub read : before ≡ read_before root.checkpoint file own other k
  pub rises : RiseFrom (root.checkpoint + 1) before
  pub rules : AreEntries root.checkpoint root.merge (map (λ d. d.1) before)
  pub breaks : (e.0 ≢ root.checkpoint + 1 + length before)
      ⊎ IsBelow (merge_after root.merge (map (λ d. d.1) before)) e.1

-- an entry is misplaced; the place is that of its gate
pub record BreaksTurn (bodies : Bodies) (root : PlainRoot) (file place : ℕ) : Type 0 where
  pub entries_0 : List Numbered
  pub entries_1 : List Numbered
  pub k : ℕ
  pub journal : file ≤ 1
  pub first_journal : IsJournal (bodies 0) entries_0
  pub second_journal : IsJournal (bodies 1) entries_1
  pub misplaced : IsMisplaced root file (own_of file entries_0 entries_1) (other_of file entries_0 entries_1) k
  pub placed : place ≡ gate_of (bodies file) k

-- the newest root, its root log, and the number of its frame there
pub record IsFound (roots_0 roots_1 : List PlainRoot) (root : PlainRoot) (file k : ℕ) : Type 0 where
  pub newest : IsNewest (roots_0 ++ roots_1) root
  pub here : ((file ≡ 2) × (k ≡ length newest.before) × (k < length roots_0))
      ⊎ ((file ≡ 3) × (length roots_0 + k ≡ length newest.before))

-- the root logs have this newest root, in this frame of this log
pub record FindsNewest (bodies : Bodies) (root : PlainRoot) (file k : ℕ) : Type 0 where
  pub roots_0 : List PlainRoot
  pub roots_1 : List PlainRoot
  pub first_log : AreRoots (bodies 2) roots_0
  pub second_log : AreRoots (bodies 3) roots_1
  pub found : IsFound roots_0 roots_1 root file k

-- after all entries the merge timestamp is below the horizon; the place is that of the root's gate
pub record IsBelowHorizon (bodies : Bodies) (root : PlainRoot) (file place : ℕ) : Type 0 where
  pub told : List Entry
  pub k : ℕ
  pub newest : FindsNewest bodies root file k
  pub entries : TellsEntries bodies root.checkpoint told
  pub rules : AreEntries root.checkpoint root.merge told
  pub below : merge_after root.merge told < root.horizon
  pub placed : place ≡ gate_of (bodies file) k

-- the journals break a rule together, or with the root
abbrev pub DoNotFit : Bodies → PlainRoot → ℕ → ℕ → Type 0
DoNotFit bodies root file place = BreaksTurn bodies root file place ⊎ IsBelowHorizon bodies root file place

-- a journal breaks a rule: the first, or else the second, or else both together
abbrev pub JournalsBreak : Image → Bodies → PlainRoot → ℕ → ℕ → Type 0
JournalsBreak image bodies root file place =
    ((file ≡ 0) × JournalBreaks (image 0) place)
    ⊎ (((file ≡ 1) × IsEntryLog (image 0) × JournalBreaks (image 1) place)
    ⊎ (HasBodies bodies image × DoNotFit bodies root file place))

-- the root logs tell a root, and the journals break a rule
pub record AreBadJournals (image : Image) (file place : ℕ) : Type 0 where
  pub bodies : Bodies
  pub root : PlainRoot
  pub first_log : HasFrames (bodies 2) (image 2)
  pub second_log : HasFrames (bodies 3) (image 3)
  pub newest : TellsRoot bodies root
  pub breaks : JournalsBreak image bodies root file place

-- a root log breaks a rule: the first, or else the second
abbrev pub AreBadRootLogs : Image → ℕ → ℕ → Type 0
AreBadRootLogs image file place =
    ((file ≡ 2) × RootLogBreaks (image 2) place) ⊎ ((file ≡ 3) × IsRootLog (image 2) × RootLogBreaks (image 3) place)

-- this log of the image breaks a rule at this place: a root log, or else a journal
abbrev pub Damages : Image → ℕ → ℕ → Type 0
Damages image file place = AreBadRootLogs image file place ⊎ AreBadJournals image file place

-- a root names parts or files to be removed; the place is that of their count in its body
abbrev pub NamesFiles : PlainRoot → ℕ → Type 0
NamesFiles root at =
    ((root.parts ≢ []) × (at ≡ length (3 ∷ numbers root ++ settings root.settings)))
    ⊎ ((root.parts ≡ []) × (root.removed ≢ [])
    × (at ≡ length (3 ∷ numbers root ++ settings root.settings ++ listed part root.parts)))

-- a rule for as long as no files are written: the newest root names none, or the directory isn't opened
pub record NamesFilesSoFar (image : Image) (file place : ℕ) : Type 0 where
  pub bodies : Bodies
  pub root : PlainRoot
  pub k : ℕ
  pub at : ℕ
  pub first_log : HasFrames (bodies 2) (image 2)
  pub second_log : HasFrames (bodies 3) (image 3)
  pub newest : FindsNewest bodies root file k
  pub names : NamesFiles root at
  pub placed : place ≡ gate_of (bodies file) k + 9 + at

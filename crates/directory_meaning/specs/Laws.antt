-- Laws of what logs and files show.
use Rattle.std.specs.Prelude.{ℕ, ◌≡◌, ◌⊎◌, ◌+◌, ◌^◌, ◌≤◌, List, [], ◌∷◌, length, IsTrue}
use Rattle.std.specs.List.{flat_map}
use Rattle.disk_model.specs.Files.{Files}
use Rattle.disk_model.specs.Logs.{Image}
use Rattle.doc_model.specs.declared.entry.Entry.{Entry}
use Rattle.doc_model.specs.declared.settings.Settings.{Settings}
use Rattle.doc_meaning.specs.History.{AreEntries, Base, History, IsBase, empty_base, front, merge, merge_after, settings_of, shown}
use Rattle.journal_bodies.specs.Entries.{SpellsEntry}
use Rattle.journal_bodies.specs.Roots.{PlainRoot, SpellsRoot, files_of, has}
use Rattle.directory_meaning.specs.Bodies.{Bodies, HasBodies, MayHaveBodies, TellsRoot}
use Rattle.directory_meaning.specs.Damages.{Damages}
use Rattle.directory_meaning.specs.Shown.{Shows, Tells, TellsAt, first_root, only_body, shown_from, with_body, with_entry, without_first}

-- no logs have frames
abbrev pub no_bodies : Bodies
no_bodies file = []

-- an image with some files shows at most one base
abbrev pub OneBaseIsShown : Type 0
OneBaseIsShown = (files : Files) (image : Image) (base other : Base) →
    Shows files image base → Shows files image other → base ≡ other

-- it shows nothing but bases
abbrev pub WhatIsShownIsABase : Type 0
WhatIsShownIsABase = (files : Files) (image : Image) (base : Base) → Shows files image base → IsBase base

-- an image that shows a base isn't damaged
abbrev pub WhatIsShownIsNotDamaged : Type 0
WhatIsShownIsNotDamaged = (files : Files) (image : Image) (base : Base) (file place : ℕ) →
    Shows files image base → Damages image file place → ⊥

-- the files that the parts of a root name are the same among these and those
abbrev pub HasSameParts : PlainRoot → Files → Files → Type 0
HasSameParts root files more = (number : ℕ) →
    IsTrue (has (flat_map files_of root.parts) number) → more number ≡ files number

-- files that the newest root doesn't name change nothing
abbrev pub OtherFilesDoNotCount : Type 0
OtherFilesDoNotCount = (files more : Files) (image : Image) (base : Base) →
    ((bodies : Bodies) (root : PlainRoot) → HasBodies bodies image → TellsRoot bodies root →
    HasSameParts root files more) →
    Shows files image base → Shows more image base

-- an image is damaged in one log, at one place
abbrev pub DamageIsOne : Type 0
DamageIsOne = (image : Image) (file other place to : ℕ) → Damages image file place → Damages image other to →
    (file ≡ other) × (place ≡ to)

-- an image without a frame in the root logs shows nothing
abbrev pub NothingIsShown : Type 0
NothingIsShown = (files : Files) (bodies : Bodies) (image : Image) (base : Base) →
    HasBodies bodies image → bodies 2 ≡ [] → bodies 3 ≡ [] → Shows files image base → ⊥

-- a first root alone tells the empty base, and the next entry goes to either journal
abbrev pub FirstRootIsTold : Type 0
FirstRootIsTold = (files : Files) (settings : Settings) (body : List ℕ) (file : ℕ) →
    SpellsRoot body (first_root settings) → file ≤ 1 →
    TellsAt files (only_body 2 body) file (record { base = empty_base (settings_of settings); entries = [] }) 0

-- appending the body of a valid entry to the current journal appends the entry to the history
abbrev pub AnotherEntryIsTold : Type 0
AnotherEntryIsTold = (files : Files) (bodies : Bodies) (file : ℕ) (h : History) (m : ℕ) (body : List ℕ)
    (entry : Entry) →
    TellsAt files bodies file h m → SpellsEntry body (front h + 1) entry → AreEntries (front h) m (entry ∷ []) →
    TellsAt files (with_body bodies file body) file (with_entry h entry) (merge_after m (entry ∷ []))

-- without entries past the checkpoint an empty journal may be the current one, whatever the other one has
abbrev pub OldEntriesDoNotCount : Type 0
OldEntriesDoNotCount = (files : Files) (bodies : Bodies) (h : History) (m : ℕ) →
    Tells files bodies h m → h.entries ≡ [] → TellsAt files (without_first bodies) 0 h m

-- an image that may have one more entry shows the history with or without it
abbrev pub KeptIsShown : Type 0
KeptIsShown = (files : Files) (kept : Bodies) (file : ℕ) (h : History) (m : ℕ) (body : List ℕ) (entry : Entry)
    (image : Image) → TellsAt files kept file h m → m ≤ front h → SpellsEntry body (front h + 1) entry →
    AreEntries (front h) m (entry ∷ []) → MayHaveBodies kept (only_body file body) image →
    Shows files image (shown_from m h)
    ⊎ Shows files image (shown_from (merge_after m (entry ∷ [])) (with_entry h entry))

-- an image whose frames tell a history shows what a reader sees at its front
abbrev pub ToldIsShown : Type 0
ToldIsShown = (files : Files) (kept : Bodies) (h : History) (m : ℕ) (image : Image) →
    Tells files kept h m → m ≤ front h → MayHaveBodies kept no_bodies image → Shows files image (shown_from m h)

-- if a reader sees the same of two histories, it does so after one more entry
abbrev pub EntriesGoOnAlike : Type 0
EntriesGoOnAlike = (h g : History) (m : ℕ) (entry : Entry) → merge h ≤ front h → shown_from m g ≡ shown h →
    AreEntries (front h) (merge h) (entry ∷ []) →
    shown_from (merge_after m (entry ∷ [])) (with_entry g entry) ≡ shown (with_entry h entry)

-- a history that begins with what an image shows shows it too
abbrev pub ShownBegins : Type 0
ShownBegins = (base : Base) → IsBase base → shown (record { base = base; entries = [] }) ≡ base

-- an entry's frame and the gate behind it have fewer than 2^31 bytes
abbrev pub FramesAreShort : Type 0
FramesAreShort = (body : List ℕ) (number : ℕ) (e : Entry) → SpellsEntry body number e → length body + 10 ≤ 2 ^ 31

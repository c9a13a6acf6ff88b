-- Laws of reading, each a statement that a function of the same subject proves.
use Rattle.std.specs.Prelude.{◌≡◌, ℕ, ◌<◌, ◌≤◌, List, ◌++◌, length, get_or, Option, Ok, Err, IsTrue}
use Rattle.doc_model.specs.declared.entry.Entry.{Entry}
use Rattle.journal_bodies.specs.Answers.{entry_of, root_of}
use Rattle.journal_bodies.specs.Entries.{SpellsEntry}
use Rattle.journal_bodies.specs.EntryReading.{is_expected}
use Rattle.journal_bodies.specs.Roots.{PlainRoot, SpellsRoot}

-- each number is a byte
abbrev pub AreBytes : List ℕ → Type 0
AreBytes bytes = (i : ℕ) → get_or bytes i 0 < 256

-- the bytes of an entry are decoded to it, if its number is the one that is expected
abbrev pub EntriesAreRead : Type 0
EntriesAreRead =
    (expected : Option ℕ) (bytes : List ℕ) (number : ℕ) (e : Entry)
    → SpellsEntry bytes number e → IsTrue (is_expected expected number) → entry_of expected bytes ≡ Ok (number, e)

-- the bytes of a root are decoded to it
abbrev pub RootsAreRead : Type 0
RootsAreRead = (bytes : List ℕ) (r : PlainRoot) → SpellsRoot bytes r → root_of bytes ≡ Ok r

-- the bytes of an entry that end early are invalid at one of them or at their end
abbrev pub EntriesEndEarly : Type 0
EntriesEndEarly =
    (expected : Option ℕ) (bytes more : List ℕ) (number : ℕ) (e : Entry)
    → AreBytes bytes → SpellsEntry (bytes ++ more) number e → IsTrue (is_expected expected number) → 0 < length more
    → (place : ℕ) × (entry_of expected bytes ≡ Err place) × (place ≤ length bytes)

-- the bytes of a root that end early are invalid at one of them or at their end
abbrev pub RootsEndEarly : Type 0
RootsEndEarly =
    (bytes more : List ℕ) (r : PlainRoot) → AreBytes bytes → SpellsRoot (bytes ++ more) r → 0 < length more
    → (place : ℕ) × (root_of bytes ≡ Err place) × (place ≤ length bytes)

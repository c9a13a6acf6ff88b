-- To which journal the next entry goes when a directory is opened.
use Rattle.std.specs.Prelude.{ℕ, ◌≡◌, ◌≢◌, ◌⊎◌, ◌+◌, ◌≤◌, Bool, List, [], length, IsTrue, IsFalse}
use Rattle.directory_meaning.specs.Bodies.{Numbered, other_of, own_of, past}
use Rattle.directory_meaning.specs.Shown.{TakesNext}

-- the next entry goes to the journal of the newest entry past the checkpoint
abbrev pub GoesOn : ℕ → List Numbered → List Numbered → Type 0
GoesOn checkpoint own other = (past checkpoint own ≢ [])
    × TakesNext checkpoint (checkpoint + length (past checkpoint other) + length (past checkpoint own)) own other

-- no entry is past the checkpoint: the next one goes to an empty journal, to the first if both are; if neither is, to
-- the first, which must be reset before
pub record StartsAnew (checkpoint : ℕ) (entries_0 entries_1 : List Numbered) (file : ℕ) (resets : Bool) : Type 0 where
  pub none : (past checkpoint entries_0 ≡ []) × (past checkpoint entries_1 ≡ [])
  pub empty : IsFalse resets → own_of file entries_0 entries_1 ≡ []
  pub first : file ≢ 0 → entries_0 ≢ []
  pub neither : IsTrue resets → (file ≡ 0) × (entries_0 ≢ []) × (entries_1 ≢ [])

-- the next entry goes to this journal, and `resets` says whether the first one must be reset before
pub record Chooses (checkpoint : ℕ) (entries_0 entries_1 : List Numbered) (file : ℕ) (resets : Bool) : Type 0 where
  pub journal : file ≤ 1
  pub next : (IsFalse resets × GoesOn checkpoint (own_of file entries_0 entries_1) (other_of file entries_0 entries_1))
      ⊎ StartsAnew checkpoint entries_0 entries_1 file resets

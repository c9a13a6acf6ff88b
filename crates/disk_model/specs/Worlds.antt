-- What a world hands out and takes back.
use Rattle.std.specs.Prelude.{◌≡◌, ◌⊎◌, ℕ, ◌<◌, List, [], ◌∷◌, ◌++◌, Option, Some, None, IfSome, Result, MatchResult, slice_get, length}
use Rattle.disk_model.specs.declared.disk.TheConstants.{LOG_COUNT}
use Rattle.disk_model.specs.Logs.{Image, CrashImages, Settled}
use Rattle.disk_model.specs.Files.{Slot, nothing}

-- what was handed out, in order, and what was put back, in that order; none where a put that failed doesn't tell it
pub record Handed (A : Type 0) : Type 0 where
  pub out : List A
  pub back : List (Option A)

-- one more was handed out
pub record HandsOut {A : Type 0} (value : A) (old new : Handed A) : Type 0 where
  pub out : new.out ≡ old.out ++ value ∷ []
  pub back : new.back ≡ old.back

-- one more was put back, and this is told of it
pub record PutsBack {A : Type 0} (told : Option A) (old new : Handed A) : Type 0 where
  pub out : new.out ≡ old.out
  pub back : new.back ≡ old.back ++ told ∷ []

-- a put that failed counts as one, and what it was given needn't be told
abbrev pub Returns : {A T E : Type 0} → Result T E → A → Handed A → Handed A → Type 0
Returns result value old new = MatchResult result (λ _. PutsBack (Some value) old new)
    (λ _. PutsBack None old new ⊎ PutsBack (Some value) old new)

-- the directory of the first store that was not yet put back
abbrev pub directory_due : {A : Type 0} → Handed A → List (List ℕ) → Option (List ℕ)
directory_due stores directories = slice_get directories (length stores.back)

-- four logs of one zero byte each, on the disk, and no sealed file
pub record IsBlank (seen : Option Image) (may_leave : CrashImages) (holds : Option (ℕ → Slot)) : Type 0 where
  pub logs : IfSome seen (λ image. (file : ℕ) → file < LOG_COUNT → image file ≡ 0 ∷ [])
  pub settled : (file : ℕ) → file < LOG_COUNT → Settled file seen may_leave
  pub files : IfSome holds (λ slots. (number : ℕ) → slots number ≡ nothing)

-- The disk model: what calls do to the bytes of a log, and what a crash may leave of it.
use Rattle.std.specs.Prelude.{◌≡◌, ◌⊎◌, ℕ, ◌+◌, ◌<◌, ◌≤◌, max, List, ◌++◌, length, take, drop, Option, IfSome}
use Rattle.disk_model.specs.Changes.{OnlyAt}

-- the bytes of each log
abbrev pub Image : Type 0
Image = ℕ → List ℕ

-- what a crash may leave
abbrev pub CrashImages : Type 1
CrashImages = Image → Type 0

-- the bytes after a write of these at this place
abbrev pub written_at : List ℕ → ℕ → List ℕ → List ℕ
written_at old place bytes = take place old ++ bytes ++ drop (place + length bytes) old

-- a write, and a cut, that was done
abbrev pub Writes : ℕ → List ℕ → List ℕ → List ℕ → Type 0
Writes place bytes old new = new ≡ written_at old place bytes

abbrev pub Cuts : ℕ → List ℕ → List ℕ → Type 0
Cuts len old new = new ≡ take len old

-- a write of n bytes that may be torn: its range and all past the old end are any bytes, the rest is as it was
pub record Torn (place n : ℕ) (old new : List ℕ) : Type 0 where
  pub bytes : List ℕ
  pub rest : new ≡ take place old ++ bytes ++ drop (place + n) old
  pub no_shorter : length old ≤ length new
  pub no_longer : length new ≤ max (length old) (place + n)

-- a cut that may have happened or not
abbrev pub MayCut : ℕ → List ℕ → List ℕ → Type 0
MayCut len old new = Cuts len old new ⊎ (new ≡ old)

-- the image is the old one with this log of another image
abbrev pub HasLogOf : ℕ → Image → Image → Image → Type 0
HasLogOf file other old new = OnlyAt file (λ _ bytes. bytes ≡ other file) old new

-- each image that a crash may leave now comes by this step from one that it might have left before
abbrev pub Follows : (Image → Image → Type 0) → CrashImages → CrashImages → Type 0
Follows step old new = (c : Image) → new c → (d : Image) × old d × step d c

-- a crash leaves of this log what a read gives, where that is told
abbrev pub Settled : ℕ → Option Image → CrashImages → Type 0
Settled file seen may_leave = IfSome seen (λ image. (c : Image) → may_leave c → c file ≡ image file)

-- a read of n bytes from this place into a buffer: it may be short, and is empty only at the end or without room
pub record ReadsAt (bytes : List ℕ) (place n : ℕ) (out : List ℕ) : Type 0 where
  pub read : take n out ≡ take n (drop place bytes)
  pub within : place + n ≤ max place (length bytes)
  pub at_end : n ≡ 0 → 0 < length out → length bytes ≤ place

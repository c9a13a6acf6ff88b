-- What a crash might have left at any moment of a period.
use Rattle.std.specs.Prelude.{◌⊎◌, ℕ, ◌≤◌}
use Rattle.disk_model.specs.Logs.{Image, CrashImages}

-- time goes on: a crash since t might have left what it might have left before, or what it may leave now
pub record Elapses (before now : ℕ) (past since : ℕ → CrashImages) (may_leave : CrashImages) : Type 0 where
  pub later : before ≤ now
  pub nothing_else : (t : ℕ) (c : Image) → t ≤ before → since t c → past t c ⊎ may_leave c
  pub keeps : (t : ℕ) (c : Image) → t ≤ before → past t c → since t c

-- at every moment from before to now a crash leaves an image that has P
pub record Throughout (before now : ℕ) (past since : ℕ → CrashImages) (P : Image → Type 0) : Type 0 where
  pub later : before ≤ now
  pub each : (c : Image) → since before c → P c
  -- for a period that began earlier
  pub earlier : (t : ℕ) (c : Image) → t ≤ before → since t c → past t c ⊎ P c
  -- what a crash might have left stays
  pub keeps : (t : ℕ) (c : Image) → t ≤ before → past t c → since t c

-- a call took time: a crash since then might have left what it might have left before, or what it may leave now
abbrev pub TakesTime : {D : Type 0} → (D → ℕ) → (D → ℕ → CrashImages) → (D → CrashImages) → D → D → Type 0
TakesTime moment left_since may_leave old new =
    Elapses (moment old) (moment new) (left_since old) (left_since new) (may_leave new)

-- How one value of many changes, and how a value changes that is told or not.
use Rattle.std.specs.Prelude.{◌≡◌, ◌≢◌, ℕ, Option, Some, None, IsSomeAnd}

-- any change
abbrev pub Any : {A : Type 0} → A → A → Type 0
Any old new = Unit {0}

-- the value at this place changes so, and every other stays
pub record OnlyAt {A : Type 0} (place : ℕ) (change : A → A → Type 0) (old new : ℕ → A) : Type 0 where
  pub here : change (old place) (new place)
  pub others : (other : ℕ) → other ≢ place → new other ≡ old other

-- a value that is told changes so; one that isn't told stays untold
abbrev pub Becomes : {A : Type 0} → (A → A → Type 0) → Option A → Option A → Type 0
Becomes change None new = new ≡ None
Becomes change (Some old) new = IsSomeAnd new (change old)

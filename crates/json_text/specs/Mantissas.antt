-- Digits as a number that ends in no zero, and the zeros behind it.
use Rattle.std.specs.Prelude.{ℕ, ◌≡◌, ◌==◌, ◌+◌, ◌-◌, ◌*◌, ◌%◌, ◌^◌, ◌≤◌, ◌<◌, Bool, true, false, nat_lt, Option, Some, None, if◌then◌else◌}

-- a value with so many zeros behind it, where that is below 10^38
abbrev pub scaled : ℕ → ℕ → Option ℕ
scaled value zeros = if nat_lt (value * 10 ^ zeros) (10 ^ 38) then Some (value * 10 ^ zeros) else None

-- a number that is 0 or ends in no zero
abbrev pub EndsInNoZero : ℕ → Type 0
EndsInNoZero m = m % 10 ≡ 0 → m ≡ 0

-- these parts stand for n: where it is over, some number from 10^38 on that ends in no zero is meant
abbrev pub Denotes : Bool → ℕ → ℕ → ℕ → Type 0
Denotes false value z n = (n ≡ value * 10 ^ z) × (value < 10 ^ 38) × EndsInNoZero value
Denotes true value z n = (m : ℕ) × (k : ℕ) × (n ≡ m * 10 ^ k) × (10 ^ 38 ≤ m) × EndsInNoZero m

-- how many units these parts make, raised and lowered by so many places
abbrev pub shifted : Bool → ℕ → ℕ → ℕ → ℕ → Option ℕ
shifted over value z raised lowered =
    if over then None
    else if value == 0 then Some 0
    else if nat_lt (z + raised) lowered then None
    else scaled value (z + raised - lowered)

-- Decimal numbers, as counts of 10^-18.
use Rattle.std.specs.Prelude.{ℤ, ◌<ℤ◌, pos, negsuc, ◌-◌, ◌^◌}

-- the magnitude is below 10^38
abbrev pub IsDecimal : ℤ → Type 0
IsDecimal units = (negsuc (10 ^ 38 - 1) <ℤ units) × (units <ℤ pos (10 ^ 38))

use Rattle.std.proofs.Common.{◌≡◌, ◌^◌, min, take}
use Rattle.json_text.specs.Numbers.{digits_value}
use Rattle.json_text.proofs.worth.exponent_of.Given as goal

abbrev pub invariant-loop-digit : goal.invariant-loop-digit
invariant-loop-digit l = l.value ≡ min (digits_value (take l.digit-index l.digits)) (10 ^ 24)

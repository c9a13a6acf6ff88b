use Rattle.std.proofs.Common.{◌+◌, ◌≤◌, ℕ, take}
use Rattle.json_text.specs.Numbers.{digits_from}
use Rattle.json_text.specs.Mantissas.{Denotes}
use Rattle.json_text.proofs.worth.with_digits.Given as goal

abbrev pub invariant-loop-digit : goal.invariant-loop-digit
invariant-loop-digit l = record {
  value : (n : ℕ) → Denotes l.fn.mantissa.over l.fn.mantissa.value l.fn.mantissa.zeros n →
      Denotes l.mantissa.over l.mantissa.value l.mantissa.zeros (digits_from n (take l.digit-index l.digits));
  zeros : l.mantissa.zeros ≤ l.fn.mantissa.zeros + l.digit-index;
}

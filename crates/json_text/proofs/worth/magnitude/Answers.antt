use Rattle.std.proofs.Common.{Bool, ap, sym, ◌∙◌, arith}
use Rattle.json_text.specs.Numbers.{digits_from, magnitude}
use Rattle.json_text.proofs.Tens.{magnitude_down, magnitude_up, stands_first}
use Rattle.json_text.proofs.worth.magnitude.Goals as goal

pub returns-then-down : goal.returns-then-down
returns-then-down c =
    let m = c.with_digits-mantissa-2.result in
    c.shifted.ensures
    ∙ magnitude_down c.args.whole.now c.args.fraction.now c.args.exponent.now m.over m.value m.zeros
    c.exponent_of-exponent.result
    (c.with_digits-mantissa-2.ensures.value (digits_from 0 c.args.whole.now)
    (c.with_digits-mantissa.ensures.value 0 stands_first)) (omega arith) c.exponent_of-exponent.ensures
    ∙ ap (λ (down : Bool). magnitude c.args.whole.now c.args.fraction.now down c.args.exponent.now) (sym c.if-down.true)

pub returns-else-down : goal.returns-else-down
returns-else-down c =
    let m = c.with_digits-mantissa-2.result in
    c.shifted-else-down.ensures
    ∙ magnitude_up c.args.whole.now c.args.fraction.now c.args.exponent.now m.over m.value m.zeros
    c.exponent_of-exponent.result
    (c.with_digits-mantissa-2.ensures.value (digits_from 0 c.args.whole.now)
    (c.with_digits-mantissa.ensures.value 0 stands_first)) (omega arith) c.exponent_of-exponent.ensures
    ∙ ap (λ (down : Bool). magnitude c.args.whole.now c.args.fraction.now down c.args.exponent.now)
    (sym c.if-down.false)

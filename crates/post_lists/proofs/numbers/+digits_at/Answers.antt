use Rattle.std.proofs.Common.{arith, ◌^◌, ◌-◌, ◌<◌}
use Rattle.post_lists.proofs.Digits.{pow_few, pow_some, pow_step}
use Rattle.post_lists.proofs.numbers.+digits_at.Goals as goal

pub returns-then-low-lt128-clause-below : goal.returns-then-low-lt128-clause-below
returns-then-low-lt128-clause-below t c =
    omega (arith, pow_step c.args.most (omega arith), pow_some (c.args.most - 1))

pub overflow_mul-result : goal.overflow_mul-result
overflow_mul-result t c =
    let few : c.in_ok-high.high < 128 ^ (c.args.most - 1) = c.in_ok-high.ensures.below in
    record { fits = omega (arith, pow_few c.args.most c.requires, few) }

pub overflow_add-result : goal.overflow_add-result
overflow_add-result t c =
    let few : c.in_ok-high.high < 128 ^ (c.args.most - 1) = c.in_ok-high.ensures.below in
    record { fits = omega (arith, pow_few c.args.most c.requires, few) }

pub returns-clause-below : goal.returns-clause-below
returns-clause-below t c =
    let few : c.in_ok-high.high < 128 ^ (c.args.most - 1) = c.in_ok-high.ensures.below in
    omega (arith, pow_step c.args.most (omega arith), few)

use Rattle.json_text.proofs.Tens.{digit_zero, digit_kept, digit_over, digit_long}
use Rattle.json_text.proofs.worth.with_digit.Goals as goal

pub returns-then-digit-eq48-clause-value : goal.returns-then-digit-eq48-clause-value
returns-then-digit-eq48-clause-value c = λ n h. digit_zero c.args.mantissa.over c.args.mantissa.value
    c.args.mantissa.zeros n c.args.digit c.if-digit-eq48.true h

pub returns-in-Some-clause-value : goal.returns-in-Some-clause-value
returns-in-Some-clause-value c = λ n h. digit_kept c.args.mantissa.over c.args.mantissa.value c.args.mantissa.zeros n
    c.args.digit c.in-Some.tens c.from.result c.if-not-over.true c.requires.digit c.if-digit-eq48.false
    c.in-Some.ensures c.from.ensures h

pub returns-in_default-clause-value : goal.returns-in_default-clause-value
returns-in_default-clause-value c = λ n h. digit_over c.args.mantissa.over c.args.mantissa.value c.args.mantissa.zeros n
    c.args.digit c.args.mantissa.value c.if-not-over.false c.requires.digit c.if-digit-eq48.false h

pub returns-in_default-2-clause-value : goal.returns-in_default-2-clause-value
returns-in_default-2-clause-value c = λ n h. digit_long c.args.mantissa.over c.args.mantissa.value c.args.mantissa.zeros
    n c.args.digit c.args.mantissa.value c.in_default.ensures c.requires.digit c.if-digit-eq48.false h

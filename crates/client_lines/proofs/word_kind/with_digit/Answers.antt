use Rattle.std.proofs.Common.{arith, ◌*◌, ◌+◌}
use Rattle.client_lines.proofs.SpanLemmas.{no_digit, first_digit, zero_stays, more_digits}
use Rattle.client_lines.proofs.word_kind.with_digit.Goals as goal

pub returns-then-not-is_ascii_digit : goal.returns-then-not-is_ascii_digit
returns-then-not-is_ascii_digit c =
    let x = c.if-not-is_ascii_digit.ensures.cases in no_digit c.args.value c.args.byte (λ h. grind arith)

pub returns-in_default : goal.returns-in_default
returns-in_default c =
    let x = c.if-not-is_ascii_digit.ensures.cases in
    first_digit c.args.value c.args.byte c.from-digit.result c.in_default.is x.0 x.1 c.from-digit.ensures

pub returns-then-value-eq0 : goal.returns-then-value-eq0
returns-then-value-eq0 c =
    zero_stays c.args.value c.in-Some.value c.args.byte c.in-Some.is c.if-value-eq0.true

pub returns : goal.returns
returns c =
    let x = c.if-not-is_ascii_digit.ensures.cases in
    let ne = c.if-value-eq0.false in
    more_digits c.args.value c.in-Some.value c.args.byte (c.in-Some.value * 10 + c.from-digit.result) c.not_past.result
    c.in-Some.is (omega arith) (rw c.in-Some.is at c.requires) x.0 x.1 (omega arith) c.not_past.ensures

use Rattle.std.proofs.Common.{◌≡◌, ◌<◌, ◌≤◌, ◌^◌, ℕ, List, Option, Some, None, Result, Ok, Err, sym, ◌∙◌, ap, subst, arith}
use Rattle.std.proofs.lemmas.Bool.{false≢true}
use Rattle.std.proofs.lemmas.Fmt.{parse-decimal}
use Rattle.std.proofs.lemmas.Option.{none-some}
use Rattle.std.specs.Fmt.{decimal}
use Rattle.std.specs.Result.{result_ok}
use Rattle.std.specs.Str.Parse.{ParsesUnsigned}
use Rattle.command_words.specs.Asked.{IsNumber}
use Rattle.command_words.specs.Reading.{or_default}
use Rattle.command_words.proofs.numbers.number.Goals as goal
use Rattle.command_words.proofs.numbers.number.Goals.{then-number-least-via-then-number-least, then-number-least-via-else-number-least+then-most-number}

parsed : {E : Type 0} (least most n : ℕ) (text : List ℕ) (r : Result ℕ E) → most < 2 ^ 32
    → ParsesUnsigned 32 10 text r → IsNumber least most text n → r ≡ Ok n
parsed least most n text r fits parses number =
    parse-decimal 32 n text r (omega (arith, number.high)) (omega (arith, number.high)) number.written parses

pub returns-in_err-number : goal.returns-in_err-number
returns-in_err-number c = rw c.from_residual.ensures (λ n number.
    none-some n (c.in_err-number.ensures.value ∙ ap result_ok (parsed c.args.least c.args.most n c.args.word.now
    c.parse.result c.ranges.most.fits c.parse.ensures.value.0 number)))

-- the number that was parsed is the one that is written
same_number : {E : Type 0} (least most n found : ℕ) (text : List ℕ) (r : Result ℕ E) → most < 2 ^ 32
    → ParsesUnsigned 32 10 text r → Some found ≡ result_ok r → IsNumber least most text n → found ≡ n
same_number least most n found text r fits parses is number =
    ap (λ (o : Option ℕ). or_default found o)
    (is ∙ ap result_ok (parsed least most n text r fits parses number))

pub returns-then-not-is_written : goal.returns-then-not-is_written
returns-then-not-is_written c n number =
    let same = same_number c.args.least c.args.most n c.in_ok-number.number c.args.word.now c.parse.result
    c.ranges.most.fits c.parse.ensures.value.0 c.in_ok-number.ensures.value number in
    false≢true (sym c.if-not-is_written.true
    ∙ c.is_written.ensures.1 (number.written ∙ ap decimal (sym same)))

pub returns-then-number-least : goal.returns-then-number-least
returns-then-number-least c n number =
    let same = same_number c.args.least c.args.most n c.in_ok-number.number c.args.word.now c.parse.result
    c.ranges.most.fits c.parse.ensures.value.0 c.in_ok-number.ensures.value number in
    elim c.then-number-least.branch [
      | then-number-least-via-then-number-least w ↦
          absurd (omega (arith, same, number.low, w.if-number-least.true))
      | then-number-least-via-else-number-least+then-most-number w ↦
          absurd (omega (arith, same, number.high, w.if-most-number.true))
    ]

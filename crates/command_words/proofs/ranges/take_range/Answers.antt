use Rattle.std.proofs.Common.{List, ap, arith, sym, ◌∙◌, length}
use Rattle.std.proofs.lemmas.Bool.{eqb-false}
use Rattle.command_words.specs.Reading.{has_range}
use Rattle.command_words.specs.declared.ranges.Range.{Range}
use Rattle.command_words.proofs.RangeLemmas.{refused_again, taken}
use Rattle.command_words.proofs.ranges.take_range.Goals as goal

pub returns-then-has-clause-refused : goal.returns-then-has-clause-refused
returns-then-has-clause-refused c =
    refused_again c.args.ranges.now.items c.in-Some.range c.args.word.now
    (ap (λ (l : List Range). has_range l c.in-Some.range) (sym c.as_slice.ensures.value)
    ∙ sym c.has.ensures ∙ c.if-has.true)
    c.in-Some.ensures.1

pub returns-clause-added : goal.returns-clause-added
returns-clause-added c =
    taken c.args.ranges.now.items c.push.new.self.items c.in-Some.range c.args.word.now c.push.ensures.items
    (omega (
      arith,
      eqb-false (length c.args.ranges.now.items) 64 (sym c.is_full.ensures.value ∙ c.if-is_full.false),
      c.is_full.ensures.fits,
    ))
    (ap (λ (l : List Range). has_range l c.in-Some.range) (sym c.as_slice.ensures.value)
    ∙ sym c.has.ensures ∙ c.if-has.false)
    c.in-Some.ensures

use Rattle.std.proofs.Common.{append_assoc, arith, rules}
use Rattle.post_lists.proofs.Digits.{digits_last, digits_more, room}
use Rattle.post_lists.proofs.numbers.+put_digits.Goals as goal

pub returns-then-n-lt128 : goal.returns-then-n-lt128
returns-then-n-lt128 t c =
    rw (digits_last c.args.most c.args.n c.requires.most c.if-n-lt128.true) (search rules)

pub put_digits-requires : goal.put_digits-requires
put_digits-requires t c =
    (omega arith, room c.args.most c.args.n c.requires.most c.if-n-lt128.false c.requires.below)

pub returns : goal.returns
returns t c =
    rw (digits_more c.args.most c.args.n c.requires.most c.if-n-lt128.false)
    (rw (c.in_ok-push-2.ensures.items, append_assoc) at c.put_digits.ensures)

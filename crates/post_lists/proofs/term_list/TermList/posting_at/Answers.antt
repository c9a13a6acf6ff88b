use Rattle.std.proofs.Common.{◌≡◌, ℕ, ◌+◌, ◌≤◌, ◌<◌, ◌++◌, List, ap, ◌∙◌, arith}
use Rattle.post_lists.specs.Numbers.{items_of, last_of}
use Rattle.post_lists.specs.Postings.{number}
use Rattle.post_lists.specs.declared.term_list.TermList.TheInside.{Inside}
use Rattle.post_lists.specs.Keeping.{Keeps}
use Rattle.post_lists.proofs.Damage.{follows_is, last_each, none_follows}
use Rattle.post_lists.proofs.Digits.{digits_found}
use Rattle.post_lists.proofs.Rising.{each_push}
use Rattle.post_lists.proofs.Skips.{kept_in}
use Rattle.post_lists.proofs.term_list.TermList.posting_at.Goals as goal

ends : (i : Inside) (items : List ℕ) → items_of i.count 0 i.bytes.items ≡ items
    → Keeps (items_of i.count 0 i.bytes.items) i.bytes.items i.skips.items i.count i.last → i.last ≡ last_of 0 items
ends i items is kept =
    (kept_in i items is kept).ended

pub returns-in_err-more : goal.returns-in_err-more
returns-in_err-more c =
    rw c.from_residual.ensures
    (λ item rest f. none_follows c.args.below c.args.self.now c.args.bytes.now item rest
    (omega (arith, c.ranges.below.fits)) c.in_err-more.ensures.read f)

pub returns-then-item-least_next : goal.returns-then-item-least_next
returns-then-item-least_next c = λ item rest f.
    let is : c.from.result + c.in_ok-more.more ≡ item =
    follows_is c.args.below c.args.self.now c.args.bytes.now item rest c.in_ok-more.more c.in_ok-more.rest.now
    c.from.result
    (omega (arith, c.ranges.below.fits)) f c.in_ok-more.ensures.read
    (c.from.ensures ∙ ends c.self.inside c.args.self.now c.self.view_is c.self.invariant) in
    let least : c.least_next.result ≤ item = (c.least_next.ensures item).0 f.postings.rising in
    omega (arith, is, least, c.if-item-least_next.true)

pub returns-then-item-from : goal.returns-then-item-from
returns-then-item-from c = λ item rest f.
    let is : c.from.result + c.in_ok-more.more ≡ item =
    follows_is c.args.below c.args.self.now c.args.bytes.now item rest c.in_ok-more.more c.in_ok-more.rest.now
    c.from.result
    (omega (arith, c.ranges.below.fits)) f c.in_ok-more.ensures.read
    (c.from.ensures ∙ ends c.self.inside c.args.self.now c.self.view_is c.self.invariant) in
    let lt : item < c.args.below = last_each c.args.below c.args.self.now item f.postings in
    omega (arith, is, lt, c.if-item-from.true, c.from-2.ensures)

pub returns : goal.returns
returns c =
    let more = c.in_ok-more.more in
    let item : ℕ = c.from.result + more in
    let last : c.from.result ≡ last_of 0 c.args.self.now =
    c.from.ensures ∙ ends c.self.inside c.args.self.now c.self.view_is c.self.invariant in
    record {
      postings = record {
        rising = (c.least_next.ensures item).1 (omega (arith, c.if-item-least_next.false));
        each = each_push c.args.below c.args.self.now item c.requires.each
            (omega (arith, c.if-item-from.false, c.from-2.ensures));
      };
      begins = digits_found 5 c.args.bytes.now more c.in_ok-more.rest.now (λ i. omega (arith, c.type_inv.bytes i))
          c.in_ok-more.ensures.read
          ∙ ap (λ (n : ℕ). number n ++ c.in_ok-more.rest.now) (omega (arith, last));
    }

use Rattle.post_lists.proofs.term_list.reading.read_all.Goals as goal
use Rattle.std.proofs.Common.{ℕ, ◌+◌, ◌-◌, ◌++◌, List, length, refl, sym, ap, subst, ◌∙◌, arith}
use Rattle.std.proofs.lemmas.List.{length_push}
use Rattle.post_lists.specs.Postings.{ArePostings, spelling}
use Rattle.post_lists.proofs.Damage.{bad_posting, one_posting}

pub returns-in_default : goal.returns-in_default
returns-in_default c =
    let l = c.loop in
    bad_posting c.args.count c.args.below c.args.bytes.now l.list l.rest.now
    (length c.args.bytes.now - length l.rest.now) l.invariant.postings l.invariant.spelled refl
    (omega (arith, l.invariant.counted, c.loop-test.true)) c.in_default.ensures

pub loop-preserved : goal.loop-preserved
loop-preserved c =
    let l = c.loop in
    let new = c.in_ok-list.ensures in
    record {
      postings = subst (ArePostings c.args.below) (sym new) c.in-Some.ensures.postings;
      counted = ap length new ∙ length_push l.list c.in-Some.item ∙ ap (λ (n : ℕ). n + 1) l.invariant.counted;
      spelled = one_posting c.args.below c.args.bytes.now l.list l.rest.now c.in-Some.item c.in-Some.behind.now
          l.invariant.spelled c.in-Some.ensures
          ∙ ap (λ (xs : List ℕ). spelling xs ++ c.in-Some.behind.now) (sym new);
    }

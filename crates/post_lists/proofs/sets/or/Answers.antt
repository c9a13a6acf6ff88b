use Rattle.std.proofs.Common.{◌≡◌, ◌++◌, ◌∷◌, [], ◌||◌, ℕ, List, Option, Some, None, sym, ap, subst, ◌∙◌}
use Rattle.std.specs.List.{slice_get}
use Rattle.std.specs.List.Sorted.{IsStrictlyIncreasing}
use Rattle.post_lists.specs.Sets.{has, lesser, without_first}
use Rattle.post_lists.proofs.Merging.{merge_has, merge_left, merge_right, merge_rising, merged_all}
use Rattle.post_lists.proofs.sets.or.Goals as goal

least_is : (L R : List ℕ) (p q r x : Option ℕ) → p ≡ slice_get L 0 → q ≡ slice_get R 0 → r ≡ lesser p q → r ≡ x
    → lesser (slice_get L 0) (slice_get R 0) ≡ x
least_is L R p q r x e_p e_q e_r e =
    ap (λ (o : Option ℕ). lesser o (slice_get R 0)) (sym e_p) ∙ ap (lesser p) (sym e_q) ∙ sym e_r ∙ e

pub push-requires : goal.push-requires
push-requires c =
    let l = c.loop-item in
    let e = least_is l.left l.right c.peek.result c.peek-in-loop-item.result c.lesser.result (Some c.in-Some.item)
    c.peek.ensures c.peek-in-loop-item.ensures c.lesser.ensures c.in-Some.is in
    merge_rising l.list l.left l.right c.in-Some.item e l.invariant.left_rising l.invariant.right_rising

pub loop-item-preserved : goal.loop-item-preserved
loop-item-preserved c =
    let l = c.loop-item in
    let x : ℕ = c.in-Some.item in
    let e = least_is l.left l.right c.peek.result c.peek-in-loop-item.result c.lesser.result (Some c.in-Some.item)
    c.peek.ensures c.peek-in-loop-item.ensures c.lesser.ensures c.in-Some.is in
    let new = c.in_ok-list.ensures in
    record {
      all = λ z.
          ap (λ (ys : List ℕ). has ys z || (has c.pass.new.self z || has c.pass-in-Some.new.self z)) new
          ∙ ap (λ (ys : List ℕ). has (l.list ++ x ∷ []) z || (has ys z || has c.pass-in-Some.new.self z)) c.pass.ensures
          ∙ ap (λ (ys : List ℕ). has (l.list ++ x ∷ []) z || (has (without_first x l.left) z || has ys z))
          c.pass-in-Some.ensures
          ∙ merge_has l.list l.left l.right x e l.invariant.left_rising l.invariant.right_rising z
          ∙ l.invariant.all z;
      left_rising = subst IsStrictlyIncreasing
          (sym (ap (λ (ys : List ℕ). ys ++ c.pass.new.self) new
          ∙ ap (λ (ys : List ℕ). (l.list ++ x ∷ []) ++ ys) c.pass.ensures))
          (merge_left l.list l.left l.right x e l.invariant.left_rising l.invariant.right_rising);
      right_rising = subst IsStrictlyIncreasing
          (sym (ap (λ (ys : List ℕ). ys ++ c.pass-in-Some.new.self) new
          ∙ ap (λ (ys : List ℕ). (l.list ++ x ∷ []) ++ ys) c.pass-in-Some.ensures))
          (merge_right l.list l.left l.right x e l.invariant.left_rising l.invariant.right_rising);
    }

pub returns : goal.returns
returns c =
    let l = c.loop-item in
    let e = least_is l.left l.right c.peek.result c.peek-in-loop-item.result c.lesser.result None
    c.peek.ensures c.peek-in-loop-item.ensures c.lesser.ensures c.in_default.is in
    merged_all (λ x. has c.args.a.now x || has c.args.b.now x) l.list l.left l.right e l.invariant.left_rising
    l.invariant.all

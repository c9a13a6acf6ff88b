use Rattle.std.proofs.Common.{◌++◌, List, ℕ, drop, sym, subst}
use Rattle.std.specs.List.{filter}
use Rattle.std.specs.List.Sorted.{IsStrictlyIncreasing}
use Rattle.post_lists.specs.Sets.{chosen, has}
use Rattle.post_lists.proofs.Choosing.{choose_rising, chosen_all, chosen_step, first_none, first_some}
use Rattle.post_lists.proofs.sets.chosen.Goals as goal

pub push_if-requires : goal.push_if-requires
push_if-requires c =
    let l = c.loop-item in
    let split = first_some l.items c.in-Some.item (sym c.in-Some.ensures.item) in
    choose_rising c.args.there l.list c.in-Some.item (drop 1 l.items) l.others
    (subst (λ (ys : List ℕ). IsStrictlyIncreasing (l.list ++ ys)) split l.invariant.rising) l.invariant.others_rising

pub loop-item-preserved : goal.loop-item-preserved
loop-item-preserved c =
    let l = c.loop-item in
    let split = first_some l.items c.in-Some.item (sym c.in-Some.ensures.item) in
    let step = chosen_step c.args.there l.list c.in-Some.item l.items l.others
    (filter (λ x. chosen c.args.there (has c.args.b.now x)) c.args.a.now) c.starts_with.result c.in_ok-list.list
    c.next.new.self c.skip_to.new.self split l.invariant.rising l.invariant.others_rising l.invariant.told
    c.next.ensures.rest c.skip_to.ensures c.starts_with.ensures c.in_ok-list.ensures in
    record { told = step.told; rising = step.rising; others_rising = step.others_rising }

pub returns : goal.returns
returns c =
    let l = c.loop-item in
    chosen_all (λ x. chosen c.args.there (has c.args.b.now x)) (λ x. chosen c.args.there (has l.others x)) l.list
    l.items
    c.args.a.now (first_none l.items (sym c.in_default.ensures.item)) l.invariant.told l.invariant.rising

use Rattle.std.proofs.Common.{sym, subst}
use Rattle.std.specs.List.Sorted.{IsStrictlyIncreasing}
use Rattle.std.specs.declared.cmp.Ordering.TheVariants.{Less, Equal, Greater}
use Rattle.range_index.specs.Columns.{IsFirstFrom, IsGroup, NeverFall}
use Rattle.range_index.proofs.GroupLemmas.{groups_are}
use Rattle.range_index.proofs.OrderLemmas.{values_never_fall}
use Rattle.range_index.proofs.index.RangeIndex.groups.Goals as goal
use Rattle.range_index.proofs.index.RangeIndex.groups.Goals.{After-split_at-2}

pub first_from-start-requires : goal.first_from-start-requires
first_from-start-requires c =
    let index = c.self.inside in
    subst NeverFall (sym c.deref.ensures.value)
    (values_never_fall index.values.items index.fragments.items c.self.invariant.paired c.self.invariant.rising)

pub first_from-end-requires : goal.first_from-end-requires
first_from-end-requires c =
    let index = c.self.inside in
    subst NeverFall (sym c.deref-2.ensures.value)
    (values_never_fall index.values.items index.fragments.items c.self.invariant.paired c.self.invariant.rising)

groups : (c : After-split_at-2) →
    let rows = c.args.self.now in
    let given = c.args.value.now in
    let equal = c.split_at-2.result.0.now in
    IsGroup rows given Less c.split_at.result.0.now × IsGroup rows given Equal equal
    × IsGroup rows given Greater c.split_at-2.result.1.now × IsStrictlyIncreasing equal
groups c =
    let index = c.self.inside in
    let given = c.args.value.now in
    let start = c.first_from-start.result in
    let end = c.first_from-end.result in
    groups_are index.values.items index.fragments.items c.self.invariant given start end
    (subst (λ values. IsFirstFrom values given Equal start) c.deref.ensures.value c.first_from-start.ensures)
    (subst (λ values. IsFirstFrom values given Greater end) c.deref-2.ensures.value c.first_from-end.ensures)
    c.args.self.now c.self.view_is c.as_slice.result.now c.split_at.result.0.now c.split_at.result.1.now
    c.split_at-2.result.0.now c.split_at-2.result.1.now c.as_slice.ensures.value c.split_at.ensures.front
    c.split_at.ensures.back c.split_at-2.ensures.front c.split_at-2.ensures.back

pub returns-clause-below : goal.returns-clause-below
returns-clause-below c = (groups (goal.at.returns-clause-below c).After-split_at-2).0

pub returns-clause-equal : goal.returns-clause-equal
returns-clause-equal c = (groups (goal.at.returns-clause-equal c).After-split_at-2).1

pub returns-clause-above : goal.returns-clause-above
returns-clause-above c = (groups (goal.at.returns-clause-above c).After-split_at-2).2

pub returns-clause-rising : goal.returns-clause-rising
returns-clause-rising c = (groups (goal.at.returns-clause-rising c).After-split_at-2).3

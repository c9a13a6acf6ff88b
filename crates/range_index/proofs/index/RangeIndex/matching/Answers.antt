use Rattle.std.proofs.Common.{ℕ, Vec, Global, subst, sym}
use Rattle.std.proofs.lemmas.Result.{IfOk-weaker}
use Rattle.range_index.specs.Rows.{FindsFragments}
use Rattle.range_index.specs.declared.compare.Compare.TheVariants.{Eq}
use Rattle.range_index.proofs.FindLemmas.{found_at_least, found_at_most, found_equal, found_greater, found_less, found_other}
use Rattle.range_index.proofs.index.RangeIndex.matching.Goals as goal

pub returns-in-Lt : goal.returns-in-Lt
returns-in-Lt c =
    let groups = c.groups-groups in
    let rows = c.args.self.now in
    let given = c.args.value.now in
    IfOk-weaker _ _ _
    (λ (found : Vec ℕ Global) joins. subst (λ op. FindsFragments rows op given found.items) (sym c.in-Lt.is)
    (found_less rows given groups.result.below.now found.items
    groups.ensures.below joins))
    c.distinct.ensures

pub returns-in-Le : goal.returns-in-Le
returns-in-Le c =
    let groups = c.groups-groups in
    let rows = c.args.self.now in
    let given = c.args.value.now in
    IfOk-weaker _ _ _
    (λ (found : Vec ℕ Global) joins. subst (λ op. FindsFragments rows op given found.items) (sym c.in-Le.is)
    (found_at_most rows given groups.result.below.now groups.result.equal.now found.items
    groups.ensures.below groups.ensures.equal joins))
    c.distinct-in-Le.ensures

pub returns-in-Gt : goal.returns-in-Gt
returns-in-Gt c =
    let groups = c.groups-groups in
    let rows = c.args.self.now in
    let given = c.args.value.now in
    IfOk-weaker _ _ _
    (λ (found : Vec ℕ Global) joins. subst (λ op. FindsFragments rows op given found.items) (sym c.in-Gt.is)
    (found_greater rows given groups.result.above.now found.items
    groups.ensures.above joins))
    c.distinct-in-Gt.ensures

pub returns-in-Ge : goal.returns-in-Ge
returns-in-Ge c =
    let groups = c.groups-groups in
    let rows = c.args.self.now in
    let given = c.args.value.now in
    IfOk-weaker _ _ _
    (λ (found : Vec ℕ Global) joins. subst (λ op. FindsFragments rows op given found.items) (sym c.in-Ge.is)
    (found_at_least rows given groups.result.equal.now groups.result.above.now found.items
    groups.ensures.equal groups.ensures.above joins))
    c.distinct-in-Ge.ensures

pub returns-in-Ne : goal.returns-in-Ne
returns-in-Ne c =
    let groups = c.groups-groups in
    let rows = c.args.self.now in
    let given = c.args.value.now in
    IfOk-weaker _ _ _
    (λ (found : Vec ℕ Global) joins. subst (λ op. FindsFragments rows op given found.items) (sym c.in-Ne.is)
    (found_other rows given groups.result.below.now groups.result.above.now found.items
    groups.ensures.below groups.ensures.above joins))
    c.distinct-in-Ne.ensures

pub returns-in-Eq : goal.returns-in-Eq
returns-in-Eq c =
    let groups = c.groups-groups in
    let rows = c.args.self.now in
    let given = c.args.value.now in
    IfOk-weaker _ _ _
    (λ (found : Vec ℕ Global) is. subst (λ op. FindsFragments rows op given found.items) (sym c.in-Eq.is)
    (subst (FindsFragments rows Eq given) (sym is)
    (found_equal rows given groups.result.equal.now groups.ensures.equal groups.ensures.rising)))
    c.from_slice.ensures.items

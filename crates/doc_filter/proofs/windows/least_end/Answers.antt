use Rattle.std.proofs.Common.{◌+◌, ◌∷◌, drop, sym, ap, ◌∙◌, subst}
use Rattle.std.proofs.lemmas.List.{at_drop_more, drop_all}
use Rattle.doc_filter.specs.Windows.{FindsEnd, floor, floor_behind}
use Rattle.doc_filter.proofs.WindowLemmas.{Leads, leads_first, leads_nowhere, leads_on, leads_to}
use Rattle.doc_filter.proofs.windows.least_end.Goals as goal

pub loop-child-init : goal.loop-child-init
loop-child-init c = leads_first c.args.ordered (floor c.args.from) c.args.children.now

pub loop-child-preserved : goal.loop-child-preserved
loop-child-preserved c =
    let children = c.args.children.now in
    let ordered = c.args.ordered in
    let low = floor c.args.from in
    let from = floor c.loop-child.bound in
    let i = c.loop-child.child-index in
    let rest = drop (i + 1) children in
    let split = at_drop_more (λ xs. xs) children i c.child-item.result c.loop-child-test.true
    ∙ ap (λ child. child ∷ rest) (sym c.child-item.is ∙ sym c.as_slice.ensures) in
    subst (λ f. Leads ordered low children f c.max-end.result rest) (sym c.behind-bound.ensures)
    (subst (λ e. Leads ordered low children (floor_behind ordered from c.in_ok-next.next) e rest) (sym c.max-end.ensures)
    (leads_on ordered low children from c.loop-child.end c.in_ok-next.next c.as_slice.result.now rest
    c.in_ok-next.ensures
    (subst (Leads ordered low children from c.loop-child.end) split c.loop-child.invariant)))

pub returns-in_err-next : goal.returns-in_err-next
returns-in_err-next c =
    let children = c.args.children.now in
    let ordered = c.args.ordered in
    let low = floor c.args.from in
    let from = floor c.loop-child.bound in
    let i = c.loop-child.child-index in
    let rest = drop (i + 1) children in
    let split = at_drop_more (λ xs. xs) children i c.child-item.result c.loop-child-test.true
    ∙ ap (λ child. child ∷ rest) (sym c.child-item.is ∙ sym c.as_slice.ensures) in
    subst (FindsEnd ordered low children) (sym c.from_residual.ensures)
    (leads_nowhere ordered low children from c.loop-child.end c.as_slice.result.now rest c.in_err-next.ensures
    (subst (Leads ordered low children from c.loop-child.end) split c.loop-child.invariant))

pub returns : goal.returns
returns c =
    let children = c.args.children.now in
    let low = floor c.args.from in
    let from = floor c.loop-child.bound in
    leads_to c.args.ordered low children from c.loop-child.end
    (subst (Leads c.args.ordered low children from c.loop-child.end)
    (drop_all c.loop-child.child-index children c.loop-child-test.false) c.loop-child.invariant)

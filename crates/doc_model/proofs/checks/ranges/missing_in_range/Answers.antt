use Rattle.std.proofs.Common.{ℕ, List, ◌∙◌, ap, sym, map, not, Some}
use Rattle.doc_model.specs.Queries.{Index, is_indexed, kinds_of}
use Rattle.doc_model.proofs.Finding.{find_past, find_here}
use Rattle.doc_model.proofs.KindsLemmas.{missing_alike}
use Rattle.doc_model.proofs.checks.ranges.missing_in_range.Goals as goal

pub returns-in-Some : goal.returns-in-Some
returns-in-Some c =
    let missing = λ (index : Index). not (is_indexed c.args.indexes.now index) in
    let wanted = λ (name : List ℕ). map (λ k. (name, k)) (kinds_of c.args.values.now) in
    ap (λ name. Some (name, c.in-Some.kind)) c.in_ok-copy.ensures
    ∙ sym (find_here missing wanted c.as_slice-name-items.result.now c.loop-name.name-index c.name-item.result
    (c.name-item.result, c.in-Some.kind) c.loop-name-test.true c.name-item.is
    (sym (missing_alike c.args.indexes.now c.name-item.result _ _ c.kinds_among-kinds.ensures) ∙
    sym c.in-Some.ensures))
    ∙ c.loop-name.invariant

pub loop-name-preserved : goal.loop-name-preserved
loop-name-preserved c =
    let missing = λ (index : Index). not (is_indexed c.args.indexes.now index) in
    let wanted = λ (name : List ℕ). map (λ k. (name, k)) (kinds_of c.args.values.now) in
    find_past missing wanted c.as_slice-name-items.result.now c.loop-name.name-index c.name-item.result
    c.loop-name-test.true c.name-item.is
    (sym (missing_alike c.args.indexes.now c.name-item.result _ _ c.kinds_among-kinds.ensures) ∙
    sym c.in_default.ensures)
    ∙ c.loop-name.invariant

use Rattle.std.proofs.Common.{ℕ, List, map, slice_range, ap, sym, ◌∙◌}
use Rattle.std.proofs.lemmas.List.{take_all}
use Rattle.doc_meaning.specs.Words.{fold_case}
use Rattle.doc_tokens.proofs.CutLemmas.{cut_at, folded_slices}
use Rattle.doc_tokens.proofs.word_lists.folded_words.Goals as goal

pub range-requires-clause-start_le_end : goal.range-requires-clause-start_le_end
range-requires-clause-start_le_end c =
    (cut_at _ _ _ _ c.utf8.text c.in_ok-spans.ensures c.deref-span-items.ensures.value c.loop-span-test.true).rises

pub range-requires-clause-start_boundary : goal.range-requires-clause-start_boundary
range-requires-clause-start_boundary c = λ _.
    (cut_at _ _ _ _ c.utf8.text c.in_ok-spans.ensures c.deref-span-items.ensures.value c.loop-span-test.true).from

pub range-requires-clause-end_boundary : goal.range-requires-clause-end_boundary
range-requires-clause-end_boundary c =
    (cut_at _ _ _ _ c.utf8.text c.in_ok-spans.ensures c.deref-span-items.ensures.value c.loop-span-test.true).to

pub returns : goal.returns
returns c =
    let text = c.args.text.now in
    let seen = c.deref-span-items.result.now in
    let fold_all : List (ℕ × ℕ) → List (List ℕ) = map (λ span. fold_case (slice_range text span.0 span.1)) in
    c.loop-span.invariant
    ∙ ap fold_all
    (take_all c.loop-span.span-index seen c.loop-span-test.false ∙ c.deref-span-items.ensures.value
    ∙ c.in_ok-spans.ensures)
    ∙ sym (folded_slices text)

use Rattle.doc_tokens.proofs.CutLemmas.{cut_at}
use Rattle.doc_tokens.proofs.word_lists.plain_words.Goals as goal

pub range-requires-clause-start_le_end : goal.range-requires-clause-start_le_end
range-requires-clause-start_le_end c =
    (cut_at _ _ _ _ c.utf8.text c.in_ok-spans.ensures c.deref-span-items.ensures.value c.loop-span-test.true).rises

pub range-requires-clause-start_boundary : goal.range-requires-clause-start_boundary
range-requires-clause-start_boundary c = λ _.
    (cut_at _ _ _ _ c.utf8.text c.in_ok-spans.ensures c.deref-span-items.ensures.value c.loop-span-test.true).from

pub range-requires-clause-end_boundary : goal.range-requires-clause-end_boundary
range-requires-clause-end_boundary c =
    (cut_at _ _ _ _ c.utf8.text c.in_ok-spans.ensures c.deref-span-items.ensures.value c.loop-span-test.true).to

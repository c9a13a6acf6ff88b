use Rattle.std.proofs.Common.{◌≡◌, take, map, slice_range}
use Rattle.doc_meaning.specs.Words.{fold_case}
use Rattle.doc_tokens.proofs.word_lists.folded_words.Given as goal

abbrev pub invariant-loop-span : goal.invariant-loop-span
invariant-loop-span l =
    l.out ≡ map (λ span. fold_case (slice_range l.text span.0 span.1)) (take l.span-index l.span-items)

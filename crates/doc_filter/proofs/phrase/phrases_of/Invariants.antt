use Rattle.std.proofs.Common.{◌≡◌, map, take}
use Rattle.doc_filter.specs.Phrases.{phrase_of}
use Rattle.doc_filter.proofs.phrase.phrases_of.Given as goal

abbrev pub invariant-loop-text : goal.invariant-loop-text
invariant-loop-text l = l.out ≡ map (phrase_of l.case) (take l.text-index l.texts)

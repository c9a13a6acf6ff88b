use Rattle.std.proofs.Common.{◌≡◌, flat_map, take}
use Rattle.std.specs.Option.{option_copied}
use Rattle.doc_meaning.specs.Strings.{starts_among}
use Rattle.plain_query.proofs.text_starts.word_starts.Given as goal

abbrev pub invariant-loop-text : goal.invariant-loop-text
invariant-loop-text l =
    l.out ≡ flat_map (λ text. starts_among l.found text l.case (option_copied l.names)) (take l.text-index l.texts)

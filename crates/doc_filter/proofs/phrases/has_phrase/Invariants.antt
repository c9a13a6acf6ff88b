use Rattle.std.proofs.Common.{◌≡◌, false, take}
use Rattle.std.specs.Option.{option_copied}
use Rattle.doc_filter.specs.Tokenized.{has_phrase}
use Rattle.doc_filter.proofs.phrases.has_phrase.Given as goal

abbrev pub invariant-loop-string : goal.invariant-loop-string
invariant-loop-string l = has_phrase (take l.string-index l.strings) l.wanted (option_copied l.names) ≡ false

use Rattle.std.proofs.Common.{◌≡◌, ◌++◌, take}
use Rattle.std.specs.Option.{option_copied}
use Rattle.doc_filter.specs.Tokenized.{phrase_starts}
use Rattle.doc_filter.proofs.phrases.add_phrase_starts.Given as goal

abbrev pub invariant-loop-string : goal.invariant-loop-string
invariant-loop-string l =
    l.out ≡ l.fn.out ++ phrase_starts (take l.string-index l.strings) l.wanted (option_copied l.names)

use Rattle.std.proofs.Common.{◌≡◌, false, take}
use Rattle.std.specs.List.{list_any}
use Rattle.std.specs.Option.{option_copied}
use Rattle.doc_filter.specs.Conditions.{starts_of}
use Rattle.doc_filter.specs.Found.{AreOf}
use Rattle.doc_meaning.specs.Meaning.{is_nonempty}
use Rattle.doc_filter.proofs.text_queries.some_phrase_occurs.Given as goal

abbrev pub invariant-loop-phrase : goal.invariant-loop-phrase
invariant-loop-phrase l =
    let starts = starts_of l.document.root (option_copied l.names) in
    record {
      none : list_any (λ phrase. is_nonempty (starts phrase)) (take l.phrase-index l.phrases) ≡ false;
      kept : AreOf l.words l.document.root;
    }

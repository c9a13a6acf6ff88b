use Rattle.std.proofs.Common.{◌≡◌, ◌++◌, take}
use Rattle.std.specs.Option.{option_copied}
use Rattle.doc_filter.specs.Conditions.{starts_of_some}
use Rattle.doc_filter.specs.Found.{AreOf}
use Rattle.doc_filter.proofs.text_queries.add_starts_of_some.Given as goal

abbrev pub invariant-loop-phrase : goal.invariant-loop-phrase
invariant-loop-phrase l =
    let starts = starts_of_some l.document.root (option_copied l.names) (take l.phrase-index l.phrases) in
    record {
      told : l.out ≡ l.fn.out ++ starts;
      kept : AreOf l.words l.document.root;
    }

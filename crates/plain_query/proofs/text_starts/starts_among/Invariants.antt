use Rattle.std.proofs.Common.{◌≡◌, flat_map, filter, take}
use Rattle.std.specs.Option.{option_copied}
use Rattle.doc_meaning.specs.Strings.{is_named, starts_in}
use Rattle.plain_query.proofs.text_starts.starts_among.Given as goal

abbrev pub invariant-loop-string : goal.invariant-loop-string
invariant-loop-string l =
    l.out ≡ flat_map (λ s. starts_in s l.text l.case)
    (filter (λ s. is_named (option_copied l.names) s.property) (take l.string-index l.found))

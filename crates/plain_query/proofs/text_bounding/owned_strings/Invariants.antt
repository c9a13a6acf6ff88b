use Rattle.std.proofs.Common.{◌≡◌, ◌∷◌, [], filter, take, Some}
use Rattle.doc_meaning.specs.Strings.{is_named}
use Rattle.plain_query.proofs.text_bounding.owned_strings.Given as goal

abbrev pub invariant-loop-string : goal.invariant-loop-string
invariant-loop-string l = l.out ≡ filter (λ s. is_named (Some (l.name ∷ [])) s.property) (take l.string-index l.found)

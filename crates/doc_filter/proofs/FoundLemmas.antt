-- The words of a tree that is small enough can be numbered.
use Rattle.std.proofs.Common.{◌≡◌, ◌<◌, ◌^◌, Bool, List, All, Option, Some, arith}
use Rattle.std.proofs.Common.{[], ap, ◌∙◌}
use Rattle.std.proofs.lemmas.List.Elements.{All-map, All-weaker}
use Rattle.std.specs.Option.{unwrap_or}
use Rattle.doc_model.specs.Tree.{size}
use Rattle.doc_model.specs.declared.node.Node.{Node}
use Rattle.doc_meaning.specs.Strings.{strings}
use Rattle.doc_meaning.proofs.FitLemmas as fit
use Rattle.doc_meaning.proofs.PositionLemmas.{length-words_seen}
use Rattle.doc_filter.specs.declared.tokenized_string.TokenizedString.{TokenizedString}
use Rattle.doc_filter.specs.Tokenized.{IsNumbered, tokenized, tokenized_strings}

pub are_numbered : (any_case : Bool) (root : Node) → size root < 2 ^ 64 → All IsNumbered (tokenized_strings any_case root)
are_numbered any_case root fits =
    All-map IsNumbered (tokenized any_case) (strings root)
    (All-weaker fit.IsNumbered (λ s. IsNumbered (tokenized any_case s))
    (λ s lt. omega (arith, lt, length-words_seen any_case s.text)) (strings root) (fit.strings_numbered root fits))

-- what is got of what is found
pub got_words : (any_case : Bool) (root : Node) (found : Option (List TokenizedString)) (got : List TokenizedString) →
    found ≡ Some (tokenized_strings any_case root) → got ≡ unwrap_or found [] → got ≡ tokenized_strings any_case root
got_words any_case root found got found_is got_is = got_is ∙ ap (λ o. unwrap_or o []) found_is

-- The words of a document, as far as they are found.
use Rattle.std.specs.Prelude.{◌≡◌, Bool, true, false, List, All, Option, Some, IfSome}
use Rattle.doc_model.specs.declared.node.Node.{Node}
use Rattle.doc_filter.specs.declared.document_words.DocumentWords.{DocumentWords}
use Rattle.doc_filter.specs.declared.tokenized_string.TokenizedString.{TokenizedString}
use Rattle.doc_filter.specs.Tokenized.{IsNumbered, tokenized_strings}

-- the strings by the words in one of the two forms, where they are found
abbrev pub found_words : Bool → DocumentWords → Option (List TokenizedString)
found_words true words = words.folded
found_words false words = words.plain

-- what is found is what this tree has
pub record AreOf (words : DocumentWords) (root : Node) : Type 0 where
  pub plain : IfSome words.plain (λ found. found ≡ tokenized_strings false root)
  pub folded : IfSome words.folded (λ found. found ≡ tokenized_strings true root)

-- and the strings by the words in this form are found
pub record AreFound (any_case : Bool) (words : DocumentWords) (root : Node) : Type 0 where
  pub found : found_words any_case words ≡ Some (tokenized_strings any_case root)
  pub numbered : All IsNumbered (tokenized_strings any_case root)
  pub right : AreOf words root

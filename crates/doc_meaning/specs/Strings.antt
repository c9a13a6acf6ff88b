-- The scalars and the strings of a JSON tree (RFC 8259, section 3), and where a query text starts among them.
use Rattle.std.specs.Prelude.{ℕ, ◌+◌, Bool, true, false, not, List, [], ◌∷◌, map, flat_map, filter, length, drop, Option, Some, None, if◌then◌else◌}
use Rattle.std.specs.List.{filter_map, range_with_len, starts_with}
use Rattle.std.specs.Str.{bytes_eq}
use Rattle.doc_model.specs.declared.node.Node.{Node}
use Rattle.doc_model.specs.declared.node.Node.TheOpen.{Node-F}
use Rattle.doc_model.specs.declared.node.Node.TheFolds.{fold-Node}
use Rattle.doc_model.specs.declared.query.Case.{Case}
use Rattle.doc_model.specs.declared.query.Case.TheVariants as case
use Rattle.doc_model.specs.declared.scalar.Scalar.{Scalar}
use Rattle.doc_model.specs.declared.scalar.Scalar.TheVariants as scalar
use Rattle.doc_model.specs.Tree.{is_among}
use Rattle.doc_meaning.specs.declared.string_node.StringNode.{StringNode}
use Rattle.doc_meaning.specs.Words.{plain, folded, has_capital}

-- the name of the member whose value holds a scalar through arrays alone
abbrev pub Property : Type 0
Property = Option (List ℕ)

-- the scalars of a node in document order, where each child gives its own once its owner is known
abbrev pub scalars_step : Node-F (Property → List (Property × Scalar)) → Property → List (Property × Scalar)
scalars_step Node-F.Null property = (property, scalar.Null) ∷ []
scalars_step (Node-F.Bool b) property = (property, scalar.Bool b) ∷ []
scalars_step (Node-F.Num n) property = (property, scalar.Num n) ∷ []
scalars_step (Node-F.Text t) property = (property, scalar.Text t) ∷ []
scalars_step (Node-F.Items items) property = flat_map (λ item. item property) items
scalars_step (Node-F.Members members) property = flat_map (λ member. member.1 (Some member.0)) members

-- the scalars of a node that has this owner
abbrev pub scalars_under : Node → Property → List (Property × Scalar)
scalars_under = fold-Node (Property → List (Property × Scalar)) scalars_step

-- the scalars of a tree in document order, each with its owner
abbrev pub scalars : Node → List (Property × Scalar)
scalars root = scalars_under root None

-- the owner is one of the names, where names are given
abbrev pub is_named : Option (List (List ℕ)) → Property → Bool
is_named None property = true
is_named (Some names) None = false
is_named (Some names) (Some name) = is_among names name

-- the scalars of the named properties
abbrev pub scalars_of : List (List ℕ) → Node → List Scalar
scalars_of names root = map (λ s. s.1) (filter (λ s. is_named (Some names) s.0) (scalars root))

-- a scalar that is a text
abbrev pub text_of : Property × Scalar → Option (Property × List ℕ)
text_of (property, scalar.Text t) = Some (property, t)
text_of (property, scalar.Null) = None
text_of (property, scalar.Bool b) = None
text_of (property, scalar.Num n) = None

-- the first position of a text is the number of words in those before it
abbrev pub with_positions : ℕ → List (Property × List ℕ) → List StringNode
with_positions first [] = []
with_positions first (s ∷ ss) =
    record { property = s.0; text = s.1; first_position = first } ∷ with_positions (first + length (plain s.1)) ss

-- the text values of a tree in document order, each with its property and its first position
abbrev pub strings : Node → List StringNode
strings root = with_positions 0 (filter_map text_of (scalars root))

-- whether upper and lower case are alike to a query text
abbrev pub ignores_case : Case → List ℕ → Bool
ignores_case case.Auto text = not (has_capital text)
ignores_case case.Sensitive text = false
ignores_case case.Insensitive text = true

-- the words of a text as they are compared: case folded, or as written
abbrev pub words_seen : Bool → List ℕ → List (List ℕ)
words_seen any_case text = if any_case then folded text else plain text

-- the positions at which the wanted words occur one after another; none where no word is wanted
abbrev pub positions : List (List ℕ) → List (List ℕ) → List ℕ
positions [] seen = []
positions (w ∷ ws) seen = filter (λ j. starts_with bytes_eq (drop j seen) (w ∷ ws)) (range_with_len 0 (length seen))

-- where a query text starts in one string, as numbers of words
abbrev pub starts_in : StringNode → List ℕ → Case → List ℕ
starts_in s text case =
    let any_case = ignores_case case text in
    map (λ j. s.first_position + j) (positions (words_seen any_case text) (words_seen any_case s.text))

-- where a query text starts in the strings of these properties, or in all
unfoldable pub starts_among : List StringNode → List ℕ → Case → Option (List (List ℕ)) → List ℕ
starts_among found text case names = flat_map (λ s. starts_in s text case) (filter (λ s. is_named names s.property) found)

-- where a query text starts in a tree
abbrev pub starts : Node → List ℕ → Case → Option (List (List ℕ)) → List ℕ
starts root text case names = starts_among (strings root) text case names

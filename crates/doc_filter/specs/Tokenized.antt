-- The strings of a tree by their words, and what is sought in them.
use Rattle.std.specs.Prelude.{ℕ, ◌+◌, ◌<◌, ◌^◌, Bool, ◌&&◌, List, map, flat_map, filter, length, sum_by, Option, Some}
use Rattle.std.specs.List.{filter_map, list_any}
use Rattle.doc_model.specs.declared.node.Node.{Node}
use Rattle.doc_meaning.specs.declared.string_node.StringNode.{StringNode}
use Rattle.doc_meaning.specs.Meaning.{is_nonempty}
use Rattle.doc_meaning.specs.Strings.{Property, is_named, positions, scalars_under, strings, text_of, with_positions, words_seen}
use Rattle.doc_meaning.specs.Words.{plain}
use Rattle.doc_filter.specs.declared.tokenized_string.TokenizedString.{TokenizedString}

-- a text by its words, case folded or as they are written
abbrev pub tokenized_text : Bool → Property → ℕ → List ℕ → TokenizedString
tokenized_text any_case property first_position text = record { property = property; first_position = first_position; words = words_seen any_case text }

-- a string of a tree by its words
abbrev pub tokenized : Bool → StringNode → TokenizedString
tokenized any_case s = tokenized_text any_case s.property s.first_position s.text

-- texts by their words, where the first has this base
abbrev pub tokenized_from : Bool → ℕ → List (Property × List ℕ) → List TokenizedString
tokenized_from any_case first_position texts = map (tokenized any_case) (with_positions first_position texts)

-- the strings of a tree by their words
abbrev pub tokenized_strings : Bool → Node → List TokenizedString
tokenized_strings any_case root = map (tokenized any_case) (strings root)

-- the texts of a node that has this owner
abbrev pub texts_under : Node → Property → List (Property × List ℕ)
texts_under node property = filter_map text_of (scalars_under node property)

-- of the items of an array
abbrev pub texts_of_items : List Node → Property → List (Property × List ℕ)
texts_of_items items property = flat_map (λ item. texts_under item property) items

-- of the members of an object
abbrev pub texts_of_members : List (List ℕ × Node) → List (Property × List ℕ)
texts_of_members members = flat_map (λ member. texts_under member.1 (Some member.0)) members

-- how many words some texts have
abbrev pub word_count : List (Property × List ℕ) → ℕ
word_count texts = sum_by (λ s. length (plain s.1)) texts

-- its words are numbered below 2^64
abbrev pub IsNumbered : TokenizedString → Type 0
IsNumbered w = w.first_position + length w.words < 2 ^ 64

-- where the wanted words start in a string, as numbers of words
abbrev pub positions_in : TokenizedString → List (List ℕ) → List ℕ
positions_in w wanted = map (λ j. w.first_position + j) (positions wanted w.words)

-- where they start in the strings of these properties, or in all
abbrev pub phrase_starts : List TokenizedString → List (List ℕ) → Option (List (List ℕ)) → List ℕ
phrase_starts found wanted names = flat_map (λ w. positions_in w wanted) (filter (λ w. is_named names w.property) found)

-- they start somewhere there
abbrev pub has_phrase : List TokenizedString → List (List ℕ) → Option (List (List ℕ)) → Bool
has_phrase found wanted names = list_any (λ w. is_named names w.property && is_nonempty (positions wanted w.words)) found

-- they start in some of these texts, of these properties or of any
abbrev pub some_text_has : Bool → List (List ℕ) → Option (List (List ℕ)) → List (Property × List ℕ) → Bool
some_text_has any_case wanted names texts =
    list_any (λ s. is_named names s.0 && is_nonempty (positions wanted (words_seen any_case s.1))) texts

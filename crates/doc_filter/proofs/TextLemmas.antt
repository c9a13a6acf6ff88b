-- Words that occur one after another in the texts of a tree, from those of its children.
use Rattle.std.proofs.Common.{◌≡◌, ℕ, ◌+◌, ◌&&◌, ◌||◌, Bool, List, [], ◌∷◌, length, Option, None, Some, refl, sym, ap, ◌∙◌}
use Rattle.std.specs.List.{list_any}
use Rattle.doc_model.specs.declared.node.Node.{Node}
use Rattle.doc_model.specs.declared.node.Node.TheVariants as node
use Rattle.doc_meaning.specs.Meaning.{is_nonempty}
use Rattle.doc_meaning.specs.Strings.{Property, is_named, positions, strings, with_positions, words_seen}
use Rattle.doc_meaning.specs.Words.{plain}
use Rattle.doc_meaning.proofs.AnyLemmas.{any-flat_map, any-map}
use Rattle.doc_filter.proofs.PhraseLemmas.{phrase_somewhere}
use Rattle.doc_filter.proofs.TokenizedLemmas.{texts_items, texts_members}
use Rattle.doc_filter.specs.Tokenized.{has_phrase, phrase_starts, some_text_has, texts_under, tokenized, tokenized_strings}

-- a test of the owner and the text doesn't look at the base
any-with_positions : (test : Property → List ℕ → Bool) (texts : List (Property × List ℕ)) (first_position : ℕ) →
    list_any (λ s. test s.property s.text) (with_positions first_position texts) ≡ list_any (λ s. test s.0 s.1) texts
any-with_positions test [] first_position = refl
any-with_positions test (s ∷ ss) first_position =
    ap (λ b. test s.0 s.1 || b) (any-with_positions test ss (first_position + length (plain s.1)))

module _ (any_case : Bool) (wanted : List (List ℕ)) (names : Option (List (List ℕ))) where
  pub text_in_items : (n : Node) (items : List Node) (property : Property) → n ≡ node.Items items →
      some_text_has any_case wanted names (texts_under n property)
      ≡ list_any (λ item. some_text_has any_case wanted names (texts_under item property)) items
  text_in_items n items property is =
      ap (some_text_has any_case wanted names) (texts_items n items property is)
      ∙ any-flat_map (λ s. is_named names s.0 && is_nonempty (positions wanted (words_seen any_case s.1)))
      (λ item. texts_under item property) items

  pub text_in_members : (n : Node) (members : List (List ℕ × Node)) (property : Property) → n ≡ node.Members members →
      some_text_has any_case wanted names (texts_under n property)
      ≡ list_any (λ member. some_text_has any_case wanted names (texts_under member.1 (Some member.0))) members
  text_in_members n members property is =
      ap (some_text_has any_case wanted names) (texts_members n members property is)
      ∙ any-flat_map (λ s. is_named names s.0 && is_nonempty (positions wanted (words_seen any_case s.1)))
      (λ member. texts_under member.1 (Some member.0)) members

  -- the strings of a tree have its texts
  phrase_in_texts : (root : Node) →
      has_phrase (tokenized_strings any_case root) wanted names ≡ some_text_has any_case wanted names (texts_under root None)
  phrase_in_texts root =
      any-map (λ w. is_named names w.property && is_nonempty (positions wanted w.words)) (tokenized any_case) (strings root)
      ∙ any-with_positions (λ property text. is_named names property && is_nonempty (positions wanted (words_seen any_case text)))
      (texts_under root None) 0

  -- whether they start somewhere there
  pub text_somewhere : (root : Node) →
      some_text_has any_case wanted names (texts_under root None)
      ≡ is_nonempty (phrase_starts (tokenized_strings any_case root) wanted names)
  text_somewhere root = sym (phrase_in_texts root) ∙ phrase_somewhere (tokenized_strings any_case root) wanted names

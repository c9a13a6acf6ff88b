-- Word queries and property word queries are between their two tests.
use Rattle.std.proofs.Common.{◌≡◌, ℕ, Bool, true, List, [], ◌∷◌, map, None, Some, sym, ◌∙◌}
use Rattle.std.specs.List.{list_any}
use Rattle.doc_model.specs.declared.query.Case.{Case}
use Rattle.doc_meaning.specs.declared.bounds.Bounds.{Bounds}
use Rattle.doc_meaning.specs.declared.string_node.StringNode.{StringNode}
use Rattle.doc_meaning.specs.Estimates.{any_bound, prop_text_bounds, text_bounds, occur}
use Rattle.doc_meaning.specs.Meaning.{is_nonempty, word_starts}
use Rattle.doc_meaning.specs.Strings.{ignores_case, words_seen}
use Rattle.doc_meaning.proofs.AnyLemmas.{any-map, any_swapped, any_weaker}
use Rattle.doc_meaning.proofs.PhraseStartLemmas.{owned, prop_words_maybe, prop_words_sure, some_of_occur, occur_of_some, texts_occur, word_starts_occur, words_maybe, words_sure}

module _ (found : List StringNode) (case : Case) where
  pub word_sure : (texts : List (List ℕ)) → (any_bound (map (text_bounds found case) texts)).sure ≡ true →
      is_nonempty (word_starts found texts case None) ≡ true
  word_sure texts is =
      texts_occur found case texts
      ∙ any_weaker _ _ (λ text. words_sure found (ignores_case case text) (words_seen (ignores_case case text) text)) texts
      (sym (any-map (λ b. b.sure) (text_bounds found case) texts) ∙ is)

  pub word_maybe : (texts : List (List ℕ)) → is_nonempty (word_starts found texts case None) ≡ true →
      (any_bound (map (text_bounds found case) texts)).maybe ≡ true
  word_maybe texts is =
      any-map (λ b. b.maybe) (text_bounds found case) texts
      ∙ any_weaker _ _ (λ text. words_maybe found (ignores_case case text) (words_seen (ignores_case case text) text)) texts
      (sym (texts_occur found case texts) ∙ is)

  -- the words of a text occur in a property
  abbrev occurs_under : List (List ℕ) → List ℕ → Bool
  occurs_under names text = occur (owned found (Some names)) (ignores_case case text) (words_seen (ignores_case case text) text)

  abbrev name_bounds : List (List ℕ) → List ℕ → Bounds
  name_bounds texts name = any_bound (map (λ text. prop_text_bounds found case text name) texts)

  name_sure : (texts : List (List ℕ)) (name : List ℕ) → (name_bounds texts name).sure ≡ true → list_any (occurs_under (name ∷ [])) texts ≡ true
  name_sure texts name is =
      any_weaker _ _ (λ text. prop_words_sure found name (ignores_case case text) (words_seen (ignores_case case text) text))
      texts (sym (any-map (λ b. b.sure) (λ text. prop_text_bounds found case text name) texts) ∙ is)

  name_maybe : (texts : List (List ℕ)) (name : List ℕ) → list_any (occurs_under (name ∷ [])) texts ≡ true → (name_bounds texts name).maybe ≡ true
  name_maybe texts name is =
      any-map (λ b. b.maybe) (λ text. prop_text_bounds found case text name) texts
      ∙ any_weaker _ _ (λ text. prop_words_maybe found name (ignores_case case text) (words_seen (ignores_case case text) text)) texts is

  pub prop_sure : (names texts : List (List ℕ)) → (any_bound (map (name_bounds texts) names)).sure ≡ true →
      is_nonempty (word_starts found texts case (Some names)) ≡ true
  prop_sure names texts is =
      word_starts_occur found case (Some names) texts
      ∙ any_weaker _ _ (λ text. some_of_occur found names (ignores_case case text) (words_seen (ignores_case case text) text)) texts
      (any_swapped (λ (name : List ℕ) (text : List ℕ). occurs_under (name ∷ []) text) names texts
      (any_weaker _ _ (name_sure texts) names (sym (any-map (λ b. b.sure) (name_bounds texts) names) ∙ is)))

  pub prop_maybe : (names texts : List (List ℕ)) → is_nonempty (word_starts found texts case (Some names)) ≡ true →
      (any_bound (map (name_bounds texts) names)).maybe ≡ true
  prop_maybe names texts is =
      any-map (λ b. b.maybe) (name_bounds texts) names ∙ any_weaker _ _ (name_maybe texts) names
      (any_swapped (λ (text : List ℕ) (name : List ℕ). occurs_under (name ∷ []) text) texts names
      (any_weaker _ _ (λ text. occur_of_some found names (ignores_case case text) (words_seen (ignores_case case text) text))
      texts (sym (word_starts_occur found case (Some names) texts) ∙ is)))

-- Where words occur one after another, and where a query text starts.
use Rattle.std.proofs.Common.{◌≡◌, ℕ, ◌+◌, ◌&&◌, ◌||◌, Bool, true, false, cond, List, [], ◌∷◌, map, flat_map, filter, length, drop, take, bytes_eq, Option, None, Some, refl, sym, ap, ◌∙◌, ⊎_elim, drop-drop}
use Rattle.std.proofs.lemmas.Bool.{and_from, and_parts, or_cases, or_left, or_right}
use Rattle.std.specs.Cmp.Lexicographic.{pointwise}
use Rattle.std.specs.List.{list_any, range_with_len, starts_with}
use Rattle.doc_model.specs.declared.query.Case.{Case}
use Rattle.doc_meaning.specs.declared.string_node.StringNode.{StringNode}
use Rattle.doc_meaning.specs.Estimates.{each_occurs, neighbours_occur, prop_word_bounds, occur, word_bounds}
use Rattle.doc_meaning.specs.Meaning.{is_nonempty, word_starts}
use Rattle.doc_meaning.specs.Strings.{Property, ignores_case, is_named, positions, starts_among, starts_in, words_seen}
use Rattle.doc_meaning.proofs.AnyLemmas.{any-filter, any-flat_map, any_and, any_none, any_same, any_swapped, any_weaker}

-- the words occur one after another
abbrev occurs_in : List (List ℕ) → List (List ℕ) → Bool
occurs_in ws [] = false
occurs_in ws (x ∷ xs) = starts_with bytes_eq (x ∷ xs) ws || occurs_in ws xs

nonempty_kept : (b : Bool) (n : ℕ) (ns : List ℕ) → is_nonempty (cond b (n ∷ ns) ns) ≡ (b || is_nonempty ns)
nonempty_kept true n ns = refl
nonempty_kept false n ns = refl

positions_occur : (ws whole : List (List ℕ)) (k : ℕ) (seen : List (List ℕ)) → drop k whole ≡ seen →
    is_nonempty (filter (λ j. starts_with bytes_eq (drop j whole) ws) (range_with_len k (length seen))) ≡ occurs_in ws seen
positions_occur ws whole k [] is = refl
positions_occur ws whole k (x ∷ seen) is =
    let later : List ℕ = filter (λ j. starts_with bytes_eq (drop j whole) ws) (range_with_len (k + 1) (length seen)) in
    let rest : drop (k + 1) whole ≡ seen = sym (drop-drop 1 k whole) ∙ ap (drop 1) is in
    nonempty_kept (starts_with bytes_eq (drop k whole) ws) k later
    ∙ ap (λ xs. starts_with bytes_eq xs ws || is_nonempty later) is
    ∙ ap (λ b. starts_with bytes_eq (x ∷ seen) ws || b) (positions_occur ws whole (k + 1) seen rest)

positions_are : (w : List ℕ) (ws seen : List (List ℕ)) → is_nonempty (positions (w ∷ ws) seen) ≡ occurs_in (w ∷ ws) seen
positions_are w ws seen = positions_occur (w ∷ ws) seen 0 seen refl

-- two words that occur one after another, and what occurs behind the first
first_two : (u v : List ℕ) (ws seen : List (List ℕ)) → occurs_in (u ∷ v ∷ ws) seen ≡ true → occurs_in (u ∷ v ∷ []) seen ≡ true
first_two u v ws [] is = is
first_two u v ws (x ∷ []) is = elim (bytes_eq u x) as (λ b. ((b && false) || false) ≡ true →
    ((b && false) || false) ≡ true) [ true ↦ λ e. e | false ↦ λ e. e ] is
first_two u v ws (x ∷ y ∷ zs) is =
    ⊎_elim (λ here.
    let parts = and_parts (bytes_eq u x) (bytes_eq v y && pointwise bytes_eq ws (take (length ws) zs)) here in
    let more = and_parts (bytes_eq v y) (pointwise bytes_eq ws (take (length ws) zs)) parts.1 in
    or_left _ _ (and_from _ _ parts.0 (and_from _ _ more.0 refl)))
    (λ later. or_right _ _ (first_two u v ws (y ∷ zs) later))
    (or_cases (starts_with bytes_eq (x ∷ y ∷ zs) (u ∷ v ∷ ws)) (occurs_in (u ∷ v ∷ ws) (y ∷ zs)) is)

first_one : (u : List ℕ) (ws seen : List (List ℕ)) → occurs_in (u ∷ ws) seen ≡ true → occurs_in (u ∷ []) seen ≡ true
first_one u ws [] is = is
first_one u ws (x ∷ xs) is =
    ⊎_elim (λ here. or_left _ _
    (and_from _ _ (and_parts (bytes_eq u x) (pointwise bytes_eq ws (take (length ws) xs)) here).0 refl))
    (λ later. or_right _ _ (first_one u ws xs later))
    (or_cases (starts_with bytes_eq (x ∷ xs) (u ∷ ws)) (occurs_in (u ∷ ws) xs) is)

behind : (u v : List ℕ) (ws seen : List (List ℕ)) → occurs_in (u ∷ v ∷ ws) seen ≡ true → occurs_in (v ∷ ws) seen ≡ true
behind u v ws [] is = is
behind u v ws (x ∷ []) is = elim (bytes_eq u x) as (λ b. ((b && false) || false) ≡ true →
    occurs_in (v ∷ ws) (x ∷ []) ≡ true) [ true ↦ λ e. cc | false ↦ λ e. cc ] is
behind u v ws (x ∷ y ∷ zs) is =
    ⊎_elim (λ here.
    let parts = and_parts (bytes_eq u x) (bytes_eq v y && pointwise bytes_eq ws (take (length ws) zs)) here in
    or_right (starts_with bytes_eq (x ∷ y ∷ zs) (v ∷ ws)) _ (or_left _ _ parts.1))
    (λ later. or_right (starts_with bytes_eq (x ∷ y ∷ zs) (v ∷ ws)) _ (behind u v ws (y ∷ zs) later))
    (or_cases (starts_with bytes_eq (x ∷ y ∷ zs) (u ∷ v ∷ ws)) (occurs_in (u ∷ v ∷ ws) (y ∷ zs)) is)

module _ (found : List StringNode) (any_case : Bool) where
  occur_two : (u v : List ℕ) (ws : List (List ℕ)) → occur found any_case (u ∷ v ∷ ws) ≡ true → occur found any_case (u ∷ v ∷ []) ≡ true
  occur_two u v ws = any_weaker _ _ (λ s is. positions_are u (v ∷ []) (words_seen any_case s.text) ∙
      first_two u v ws (words_seen any_case s.text) (sym (positions_are u (v ∷ ws) (words_seen any_case s.text)) ∙ is)) found

  occur_one : (u : List ℕ) (ws : List (List ℕ)) → occur found any_case (u ∷ ws) ≡ true → occur found any_case (u ∷ []) ≡ true
  occur_one u ws = any_weaker _ _ (λ s is. positions_are u [] (words_seen any_case s.text) ∙
      first_one u ws (words_seen any_case s.text) (sym (positions_are u ws (words_seen any_case s.text)) ∙ is)) found

  occur_behind : (u v : List ℕ) (ws : List (List ℕ)) → occur found any_case (u ∷ v ∷ ws) ≡ true → occur found any_case (v ∷ ws) ≡ true
  occur_behind u v ws = any_weaker _ _ (λ s is. positions_are v ws (words_seen any_case s.text) ∙
      behind u v ws (words_seen any_case s.text) (sym (positions_are u (v ∷ ws) (words_seen any_case s.text)) ∙ is)) found

  occur_neighbours : (w : List ℕ) (ws : List (List ℕ)) → occur found any_case (w ∷ ws) ≡ true →
      neighbours_occur found any_case (w ∷ ws) ≡ true
  occur_neighbours w [] is = refl
  occur_neighbours w (v ∷ ws) is = and_from _ _ (occur_two w v ws is) (occur_neighbours v ws (occur_behind w v ws is))

  occur_each : (w : List ℕ) (ws : List (List ℕ)) → occur found any_case (w ∷ ws) ≡ true → each_occurs found any_case (w ∷ ws) ≡ true
  occur_each w [] is = and_from _ _ is refl
  occur_each w (v ∷ ws) is = and_from _ _ (occur_one w (v ∷ ws) is) (occur_each v ws (occur_behind w v ws is))

  none_occurs : occur found any_case [] ≡ false
  none_occurs = any_none found

  pub words_sure : (ws : List (List ℕ)) → (word_bounds found any_case ws).sure ≡ true → occur found any_case ws ≡ true
  words_sure [] is = cc
  words_sure (w ∷ []) is = is
  words_sure (v ∷ w ∷ []) is = is
  words_sure (u ∷ v ∷ w ∷ ws) is = cc

  pub words_maybe : (ws : List (List ℕ)) → occur found any_case ws ≡ true → (word_bounds found any_case ws).maybe ≡ true
  words_maybe [] is = sym none_occurs ∙ is
  words_maybe (w ∷ []) is = is
  words_maybe (v ∷ w ∷ []) is = is
  words_maybe (u ∷ v ∷ w ∷ ws) is = occur_neighbours u (v ∷ w ∷ ws) is

-- the strings of a property
abbrev pub owned : List StringNode → Option (List (List ℕ)) → List StringNode
owned found names = filter (λ s. is_named names s.property) found

module _ (found : List StringNode) (name : List ℕ) (any_case : Bool) where
  pub prop_words_sure : (ws : List (List ℕ)) → (prop_word_bounds found (owned found (Some (name ∷ []))) any_case ws).sure
      ≡ true → occur (owned found (Some (name ∷ []))) any_case ws ≡ true
  prop_words_sure [] is = cc
  prop_words_sure (w ∷ []) is = is
  prop_words_sure (v ∷ w ∷ ws) is = cc

  occur_anywhere : (ws : List (List ℕ)) → occur (owned found (Some (name ∷ []))) any_case ws ≡ true → occur found any_case ws ≡ true
  occur_anywhere ws is =
      any_weaker _ _
      (λ s both. (and_parts (is_named (Some (name ∷ [])) s.property)
      (is_nonempty (positions ws (words_seen any_case s.text))) both).1) found
      (sym (any-filter (λ s. is_nonempty (positions ws (words_seen any_case s.text)))
      (λ s. is_named (Some (name ∷ [])) s.property) found) ∙ is)

  pub prop_words_maybe : (ws : List (List ℕ)) → occur (owned found (Some (name ∷ []))) any_case ws ≡ true →
      (prop_word_bounds found (owned found (Some (name ∷ []))) any_case ws).maybe ≡ true
  prop_words_maybe [] is = sym (none_occurs (owned found (Some (name ∷ []))) any_case) ∙ is
  prop_words_maybe (w ∷ []) is = is
  prop_words_maybe (v ∷ w ∷ ws) is =
      and_from _ _ (occur_each (owned found (Some (name ∷ []))) any_case v (w ∷ ws) is)
      (occur_neighbours found any_case v (w ∷ ws) (occur_anywhere (v ∷ w ∷ ws) is))

-- one of some names owns a string where some name does alone
owned_any : (names : List (List ℕ)) (property : Property) →
    is_named (Some names) property ≡ list_any (λ name. is_named (Some (name ∷ [])) property) names
owned_any names None = sym (any_none names)
owned_any names (Some n) = any_same (bytes_eq n) (λ name. bytes_eq n name || false) (λ name. or_none (bytes_eq n name)) names
  where
    or_none : (b : Bool) → b ≡ (b || false)
    or_none true = refl
    or_none false = refl

module _ (found : List StringNode) (names : List (List ℕ)) (any_case : Bool) (ws : List (List ℕ)) where
  abbrev occurs : StringNode → Bool
  occurs s = is_nonempty (positions ws (words_seen any_case s.text))

  owned_occur : occur (owned found (Some names)) any_case ws ≡ list_any
      (λ s. list_any (λ name. is_named (Some (name ∷ [])) s.property && occurs s) names) found
  owned_occur =
      any-filter occurs (λ s. is_named (Some names) s.property) found
      ∙ any_same _ _ (λ s. ap (λ b. b && occurs s) (owned_any names s.property) ∙
      any_and (λ name. is_named (Some (name ∷ [])) s.property) (occurs s) names) found

  pub occur_of_some : occur (owned found (Some names)) any_case ws ≡ true →
      list_any (λ name. occur (owned found (Some (name ∷ []))) any_case ws) names ≡ true
  occur_of_some is =
      any_weaker _ _ (λ name here. any-filter occurs (λ s. is_named (Some (name ∷ [])) s.property) found ∙ here) names
      (any_swapped (λ (s : StringNode) (name : List ℕ). is_named (Some (name ∷ [])) s.property && occurs s) found names
      (sym owned_occur ∙ is))

  pub some_of_occur : list_any (λ name. occur (owned found (Some (name ∷ []))) any_case ws) names ≡ true →
      occur (owned found (Some names)) any_case ws ≡ true
  some_of_occur is =
      owned_occur ∙ any_swapped (λ (name : List ℕ) (s : StringNode). is_named (Some (name ∷ [])) s.property && occurs s) names found
      (any_weaker _ _ (λ name here. sym (any-filter occurs (λ s. is_named (Some (name ∷ [])) s.property) found) ∙ here) names is)

nonempty-map : (f : ℕ → ℕ) (ns : List ℕ) → is_nonempty (map f ns) ≡ is_nonempty ns
nonempty-map f [] = refl
nonempty-map f (n ∷ ns) = refl

pub nonempty_any : (ns : List ℕ) → is_nonempty ns ≡ list_any (λ n. true) ns
nonempty_any [] = refl
nonempty_any (n ∷ ns) = refl

pub nonempty-flat_map : {A : Type 0} (f : A → List ℕ) (xs : List A) →
    is_nonempty (flat_map f xs) ≡ list_any (λ x. is_nonempty (f x)) xs
nonempty-flat_map f xs =
    nonempty_any (flat_map f xs) ∙ any-flat_map (λ n. true) f xs ∙ any_same _ _ (λ x. sym (nonempty_any (f x))) xs

all_kept : (found : List StringNode) → owned found None ≡ found
all_kept [] = refl
all_kept (s ∷ found) = ap (λ rest. s ∷ rest) (all_kept found)

module _ (found : List StringNode) (case : Case) where
  -- a text starts where its words occur
  starts_occur : (names : Option (List (List ℕ))) (text : List ℕ) →
      is_nonempty (starts_among found text case names) ≡ occur (owned found names) (ignores_case case text)
      (words_seen (ignores_case case text) text)
  unfolding starts_among
  starts_occur names text =
      let any_case = ignores_case case text in
      nonempty-flat_map (λ s. starts_in s text case) (owned found names)
      ∙ any_same _ _ (λ s. nonempty-map (λ j. s.first_position + j) (positions (words_seen any_case text) (words_seen any_case s.text)))
      (owned found names)

  pub word_starts_occur : (names : Option (List (List ℕ))) (texts : List (List ℕ)) →
      is_nonempty (word_starts found texts case names) ≡ list_any
      (λ text. occur (owned found names) (ignores_case case text) (words_seen (ignores_case case text) text)) texts
  word_starts_occur names texts =
      nonempty-flat_map (λ text. starts_among found text case names) texts ∙ any_same _ _ (starts_occur names) texts

  pub texts_occur : (texts : List (List ℕ)) →
      is_nonempty (word_starts found texts case None) ≡ list_any
      (λ text. occur found (ignores_case case text) (words_seen (ignores_case case text) text)) texts
  texts_occur texts =
      word_starts_occur None texts ∙
      ap (λ kept. list_any (λ text. occur kept (ignores_case case text) (words_seen (ignores_case case text) text)) texts)
      (all_kept found)

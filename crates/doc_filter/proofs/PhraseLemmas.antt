-- Words that occur one after another in strings by their words, and in the strings themselves.
use Rattle.std.proofs.Common.{◌≡◌, ℕ, ◌+◌, ◌++◌, ◌||◌, Bool, true, false, cond, List, [], ◌∷◌}
use Rattle.std.proofs.Common.{map, flat_map, filter, Option, refl, sym, ap, ◌∙◌}
use Rattle.std.proofs.lemmas.List.Folds.{flat_map-map}
use Rattle.std.specs.List.{list_any}
use Rattle.doc_model.specs.declared.node.Node.{Node}
use Rattle.doc_model.specs.declared.query.Case.{Case}
use Rattle.doc_meaning.specs.declared.string_node.StringNode.{StringNode}
use Rattle.doc_meaning.specs.Meaning.{is_nonempty}
use Rattle.doc_meaning.specs.Strings.{ignores_case, is_named, positions, starts_among, words_seen}
use Rattle.doc_meaning.proofs.AnyLemmas.{any-filter, any_same}
use Rattle.doc_filter.specs.declared.phrase.Phrase.{Phrase}
use Rattle.doc_filter.specs.declared.tokenized_string.TokenizedString.{TokenizedString}
use Rattle.doc_filter.specs.Conditions.{starts_of, starts_of_some}
use Rattle.doc_filter.specs.Tokenized.{has_phrase, phrase_starts, positions_in, tokenized}

nonempty-append : (xs ys : List ℕ) → is_nonempty (xs ++ ys) ≡ (is_nonempty xs || is_nonempty ys)
nonempty-append [] ys = refl
nonempty-append (x ∷ xs) ys = refl

nonempty-map : (f : ℕ → ℕ) (xs : List ℕ) → is_nonempty (map f xs) ≡ is_nonempty xs
nonempty-map f [] = refl
nonempty-map f (x ∷ xs) = refl

nonempty-flat_map : {A : Type 0} (f : A → List ℕ) (xs : List A) →
    is_nonempty (flat_map f xs) ≡ list_any (λ x. is_nonempty (f x)) xs
nonempty-flat_map f [] = refl
nonempty-flat_map f (x ∷ xs) =
    nonempty-append (f x) (flat_map f xs) ∙ ap (λ b. is_nonempty (f x) || b) (nonempty-flat_map f xs)

filter-map : {A B : Type 0} (p : B → Bool) (h : A → B) (xs : List A) →
    filter p (map h xs) ≡ map h (filter (λ x. p (h x)) xs)
filter-map p h [] = refl
filter-map p h (x ∷ xs) = ap (λ ys. cond (p (h x)) (h x ∷ ys) ys) (filter-map p h xs) ∙ go (p (h x))
  where
    go : (b : Bool) →
        cond b (h x ∷ map h (filter (λ y. p (h y)) xs)) (map h (filter (λ y. p (h y)) xs))
        ≡ map h (cond b (x ∷ filter (λ y. p (h y)) xs) (filter (λ y. p (h y)) xs))
    go true = refl
    go false = refl

-- some phrase starts somewhere
pub some_starts_any : (root : Node) (names : Option (List (List ℕ))) (phrases : List Phrase) →
    is_nonempty (starts_of_some root names phrases) ≡ list_any (λ phrase. is_nonempty (starts_of root names phrase)) phrases
some_starts_any root names phrases = nonempty-flat_map (starts_of root names) phrases

-- no words start nowhere
pub no_starts : (found : List TokenizedString) (wanted : List (List ℕ)) (names : Option (List (List ℕ))) → wanted ≡ [] →
    phrase_starts found wanted names ≡ []
no_starts found wanted names none =
    ap (λ ws. phrase_starts found ws names) none ∙ go (filter (λ w. is_named names w.property) found)
  where
    go : (ws : List TokenizedString) → flat_map (λ w. positions_in w []) ws ≡ []
    go [] = refl
    go (w ∷ ws) = go ws

-- where a text starts in strings, by their words
pub phrase_starts_are : (found : List StringNode) (text : List ℕ) (case : Case) (names : Option (List (List ℕ))) →
    phrase_starts (map (tokenized (ignores_case case text)) found) (words_seen (ignores_case case text) text) names
    ≡ starts_among found text case names
unfolding starts_among
phrase_starts_are found text case names =
    let any_case = ignores_case case text in
    ap (flat_map (λ w. positions_in w (words_seen any_case text)))
    (filter-map (λ w. is_named names w.property) (tokenized any_case) found)
    ∙ flat_map-map (λ w. positions_in w (words_seen any_case text)) (tokenized any_case)
    (filter (λ s. is_named names s.property) found)

-- whether words start somewhere in strings
pub phrase_somewhere : (found : List TokenizedString) (wanted : List (List ℕ)) (names : Option (List (List ℕ))) →
    has_phrase found wanted names ≡ is_nonempty (phrase_starts found wanted names)
phrase_somewhere found wanted names =
    let owned = filter (λ w. is_named names w.property) found in
    sym (any-filter (λ w. is_nonempty (positions wanted w.words)) (λ w. is_named names w.property) found)
    ∙ sym (any_same (λ w. is_nonempty (positions_in w wanted)) (λ w. is_nonempty (positions wanted w.words))
    (λ w. nonempty-map (λ j. w.first_position + j) (positions wanted w.words)) owned)
    ∙ sym (nonempty-flat_map (λ w. positions_in w wanted) owned)

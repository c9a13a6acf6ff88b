-- The strings of a node by their words, from those of its children.
use Rattle.std.proofs.Common.{◌≡◌, ℕ, ◌+◌, ◌<◌, ◌++◌, Bool, List, [], ◌∷◌, flat_map, length, get_or, drop}
use Rattle.std.proofs.Common.{Option, Some, refl, sym, ap, ◌∙◌, subst, add_assoc, arith}
use Rattle.std.proofs.lemmas.List.{append_assoc, at_drop_more}
use Rattle.std.proofs.lemmas.List.Elements.{filter_map-append}
use Rattle.std.proofs.lemmas.List.Sums.{sum_by-cons, sum_by-append}
use Rattle.std.specs.List.{filter_map}
use Rattle.doc_model.specs.declared.node.Node.{Node}
use Rattle.doc_model.specs.declared.node.Node.TheVariants as node
use Rattle.doc_meaning.specs.Strings.{Property, scalars_under, text_of, words_seen}
use Rattle.doc_meaning.specs.Words.{plain}
use Rattle.doc_meaning.proofs.PositionLemmas.{length-words_seen}
use Rattle.doc_meaning.proofs.ScalarLemmas.{scalars_items, scalars_members}
use Rattle.doc_filter.specs.declared.tokenized_string.TokenizedString.{TokenizedString}
use Rattle.doc_filter.specs.Tokenized.{texts_of_items, texts_of_members, texts_under, word_count, tokenized, tokenized_from}

-- there are as many words in either form
pub as_many_words : (any_case : Bool) (text : List ℕ) → length (words_seen any_case text) ≡ length (plain text)
as_many_words = length-words_seen

filter_map-flat_map : {A B C : Type 0} (h : B → Option C) (f : A → List B) (xs : List A) →
    filter_map h (flat_map f xs) ≡ flat_map (λ x. filter_map h (f x)) xs
filter_map-flat_map h f [] = refl
filter_map-flat_map h f (x ∷ xs) =
    filter_map-append h (f x) (flat_map f xs) ∙ ap (λ ys. filter_map h (f x) ++ ys) (filter_map-flat_map h f xs)

pub texts_items : (n : Node) (items : List Node) (property : Property) → n ≡ node.Items items →
    texts_under n property ≡ texts_of_items items property
texts_items n items property is =
    ap (filter_map text_of) (scalars_items n items property is)
    ∙ filter_map-flat_map text_of (λ item. scalars_under item property) items

pub texts_members : (n : Node) (members : List (List ℕ × Node)) (property : Property) → n ≡ node.Members members →
    texts_under n property ≡ texts_of_members members
texts_members n members property is =
    ap (filter_map text_of) (scalars_members n members property is)
    ∙ filter_map-flat_map text_of (λ member. scalars_under member.1 (Some member.0)) members

pub word_count-append : (xs ys : List (Property × List ℕ)) → word_count (xs ++ ys) ≡ word_count xs + word_count ys
word_count-append xs ys = sum_by-append (λ s. length (plain s.1)) xs ys

-- the texts behind some others begin at the number of the words in those
pub tokenized_from-append : (any_case : Bool) (xs ys : List (Property × List ℕ)) (first_position : ℕ) →
    tokenized_from any_case first_position (xs ++ ys) ≡ tokenized_from any_case first_position xs ++ tokenized_from any_case (first_position + word_count xs) ys
tokenized_from-append any_case [] ys first_position = let e : first_position + 0 ≡ first_position = omega arith in rw e refl
tokenized_from-append any_case (x ∷ xs) ys first_position =
    let next = first_position + length (plain x.1) in
    let e : next + word_count xs ≡ first_position + word_count (x ∷ xs) =
    omega (arith, sum_by-cons (λ s. length (plain s.1)) x xs) in
    ap (λ ws. tokenized any_case (record { property = x.0; text = x.1; first_position = first_position }) ∷ ws)
    (tokenized_from-append any_case xs ys next ∙ ap (λ n. tokenized_from any_case next xs ++ tokenized_from any_case n ys) e)

-- a step of a loop that adds the texts of one child after another
pub strings_more : {A : Type 0} (texts : A → List (Property × List ℕ)) (children items : List A) (i : ℕ) (item : A)
    (any_case : Bool) (first_position next total : ℕ) (out grown all : List TokenizedString) →
    items ≡ children → i < length items → item ≡ get_or items i item →
    next ≡ first_position + word_count (texts item) → grown ≡ out ++ tokenized_from any_case first_position (texts item) →
    out ++ tokenized_from any_case first_position (flat_map texts (drop i children)) ≡ all →
    first_position + word_count (flat_map texts (drop i children)) ≡ total →
    (grown ++ tokenized_from any_case next (flat_map texts (drop (i + 1) children)) ≡ all)
    × (next + word_count (flat_map texts (drop (i + 1) children)) ≡ total)
strings_more {A} texts children items i item any_case first_position next total out grown all same lt is counted added told sums =
    let rest = flat_map texts (drop (i + 1) children) in
    let here = subst (λ (xs : List A). item ≡ get_or xs i item) same is in
    let first : flat_map texts (drop i children) ≡ texts item ++ rest =
    at_drop_more (flat_map texts) children i item (subst (λ (xs : List A). i < length xs) same lt)
    ∙ ap (λ x. texts x ++ rest) (sym here) in (
      ap (λ ws. ws ++ tokenized_from any_case next rest) added
          ∙ append_assoc out (tokenized_from any_case first_position (texts item)) (tokenized_from any_case next rest)
          ∙ ap (λ n. out ++ (tokenized_from any_case first_position (texts item) ++ tokenized_from any_case n rest)) counted
          ∙ ap (λ ws. out ++ ws) (sym (tokenized_from-append any_case (texts item) rest first_position))
          ∙ ap (λ ts. out ++ tokenized_from any_case first_position ts) (sym first)
          ∙ told,
      ap (λ n. n + word_count rest) counted
          ∙ add_assoc first_position (word_count (texts item)) (word_count rest)
          ∙ ap (λ n. first_position + n) (sym (word_count-append (texts item) rest))
          ∙ ap (λ ts. first_position + word_count ts) (sym first)
          ∙ sums,
    )

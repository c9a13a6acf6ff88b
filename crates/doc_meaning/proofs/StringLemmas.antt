-- How many words the strings of a tree have, and where each begins.
use Rattle.std.proofs.Common.{◌≡◌, ℕ, zero, suc, ◌+◌, ◌<◌, ◌≤◌, List, [], ◌∷◌, length, sum_by, None, Some, slice_get, refl, sym, ap, ◌∙◌, arith}
use Rattle.std.proofs.lemmas.List.Sums.{sum_by-cons}
use Rattle.std.specs.List.{filter_map}
use Rattle.doc_meaning.specs.declared.string_node.StringNode.{StringNode}
use Rattle.doc_meaning.specs.StringLaws.{FewerWordsThanSize, FirstPositionsRise}
use Rattle.doc_meaning.specs.Strings.{Property, scalars, text_of, with_positions}
use Rattle.doc_meaning.specs.Words.{plain}
use Rattle.doc_meaning.proofs.FitLemmas.{word_count, words_fit}
use Rattle.doc_meaning.proofs.ShownLemmas.{none_some, same_some}

abbrev words_in : StringNode → ℕ
words_in s = length (plain s.text)

as_many : (begin : ℕ) (ss : List (Property × List ℕ)) → sum_by words_in (with_positions begin ss) ≡ word_count ss
as_many begin [] = refl
as_many begin (s ∷ ss) =
    let next : ℕ = begin + length (plain s.1) in
    sum_by-cons words_in (record { property = s.0; text = s.1; first_position = begin }) (with_positions next ss) ∙
    ap (λ n. length (plain s.1) + n) (as_many next ss) ∙
    sym (sum_by-cons (λ (x : Property × List ℕ). length (plain x.1)) s ss)

pub fewer_words_than_size : FewerWordsThanSize
fewer_words_than_size root = omega (arith, as_many 0 (filter_map text_of (scalars root)), words_fit root None)

begins_after : (begin k : ℕ) (ss : List (Property × List ℕ)) (t : StringNode) →
    slice_get (with_positions begin ss) k ≡ Some t → begin ≤ t.first_position
begins_after begin k [] t is = absurd (none_some t is)
begins_after begin zero (s ∷ ss) t is =
    let there : begin ≡ t.first_position = ap (λ (r : StringNode). r.first_position)
    (same_some (record { property = s.0; text = s.1; first_position = begin }) t is) in
    omega (arith, there)
begins_after begin (suc k) (s ∷ ss) t is = omega (arith, begins_after (begin + length (plain s.1)) k ss t is)

rise : (begin j k : ℕ) (ss : List (Property × List ℕ)) (s t : StringNode) → j < k →
    slice_get (with_positions begin ss) j ≡ Some s → slice_get (with_positions begin ss) k ≡ Some t →
    s.first_position + words_in s ≤ t.first_position
rise begin j k [] s t lt is also = absurd (none_some s is)
rise begin zero zero (x ∷ ss) s t lt is also = absurd (omega (arith, lt))
rise begin zero (suc k) (x ∷ ss) s t lt is also =
    let ends : begin + length (plain x.1) ≡ s.first_position + words_in s =
    ap (λ (r : StringNode). r.first_position + words_in r)
    (same_some (record { property = x.0; text = x.1; first_position = begin }) s is) in
    omega (arith, ends, begins_after (begin + length (plain x.1)) k ss t also)
rise begin (suc j) zero (x ∷ ss) s t lt is also = absurd (omega (arith, lt))
rise begin (suc j) (suc k) (x ∷ ss) s t lt is also =
    rise (begin + length (plain x.1)) j k ss s t (omega (arith, lt)) is also

pub first_positions_rise : FirstPositionsRise
first_positions_rise root j k s t lt is also = rise 0 j k (filter_map text_of (scalars root)) s t lt is also

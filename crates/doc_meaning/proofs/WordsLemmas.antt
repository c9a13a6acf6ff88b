-- The spans of a text are its maximal runs of word characters.
use Rattle.std.proofs.Common.{◌≡◌, ℕ, zero, suc, ◌+◌, ◌<◌, ◌≤◌, ◌&&◌, ◌||◌, ◌++◌, Bool, true, false, cond, eqb, leb, ltb, List, [], ◌∷◌, length, get_or, All, Any, append_assoc, append-nil, inl, inr, IsUtf8, chars, refl, sym, ap, ◌∙◌, arith, eqb-true, le-leb, le-ltb, le_of_lt, le_refl, le_trans, leb-true, length-append, lt-ltb, lt_of_le_of_lt, lt_trans, ltb-true}
use Rattle.std.proofs.lemmas.Bool.{and_from, and_left, and_parts, and_right, eqb-false, lt-leb, or_from, or_left}
use Rattle.std.proofs.lemmas.Bool.Decides.{nat_tests}
use Rattle.std.proofs.lemmas.List.Elements.{All-cons, All-head, All-nil, All-tail}
use Rattle.std.proofs.lemmas.List.Folds.{Any-from_list_any, list_any-from_Any}
use Rattle.std.proofs.lemmas.Str.{encodes-append, encodes-chars, len_utf8_bounds, length-encode}
use Rattle.std.proofs.Math.Utf8.{encode, encodes}
use Rattle.std.specs.Char.{len_utf8}
use Rattle.std.specs.List.{AllAdjacentBelow, list_any}
use Rattle.doc_meaning.specs.Laws.{WordsAreMaximalRuns}
use Rattle.doc_meaning.specs.Runs.{Covers, IsEdge, IsCharAt}
use Rattle.doc_meaning.specs.Words.{Span, is_word_char, joined, spans, words}

-- the spans begin from `at` on, each has a byte, and there is a byte between two
abbrev Rise : ℕ → List Span → Type 0
Rise at [] = Unit {0}
Rise at (span ∷ rest) = (at ≤ span.0) × (span.0 < span.1) × Rise (span.1 + 1) rest

Rise-le : (a b : ℕ) (rest : List Span) → a ≤ b → Rise b rest → Rise a rest
Rise-le a b [] le h = tt
Rise-le a b (span ∷ rest) le h = (le_trans le h.0, h.1, h.2)

joined_rise : (from to : ℕ) (rest : List Span) → from < to → Rise to rest → Rise from (joined from to rest)
joined_rise from to [] lt h = (le_refl from, lt, tt)
joined_rise from to (span ∷ rest) lt h = go (eqb to span.0) refl
  where
    go : (b : Bool) → eqb to span.0 ≡ b → Rise from (cond b ((from, span.1) ∷ rest) ((from, to) ∷ span ∷ rest))
    go true e = (le_refl from, lt_trans lt (lt_of_le_of_lt h.0 h.1), h.2)
    go false e =
        let apart : to ≡ span.0 → ⊥ = eqb-false to span.0 e in
        let low : to ≤ span.0 = h.0 in
        let behind : to + 1 ≤ span.0 = omega arith in
        (le_refl from, lt, (behind, h.1, h.2))

wide : (at c : ℕ) → at < at + len_utf8 c
wide at c = omega (arith, (len_utf8_bounds c).0)

spans_rise : (at : ℕ) (cs : List ℕ) → Rise at (spans at cs)
spans_rise at [] = tt
spans_rise at (c ∷ cs) =
    let next = at + len_utf8 c in
    elim (is_word_char c) as (λ b. Rise at (cond b (joined at next (spans next cs)) (spans next cs))) [
      | true ↦ joined_rise at next (spans next cs) (wide at c) (spans_rise next cs)
      | false ↦ Rise-le at next (spans next cs) (le_of_lt (wide at c)) (spans_rise next cs)
    ]

filled : (at : ℕ) (rest : List Span) → Rise at rest → All (λ span. span.0 < span.1) rest
filled at [] h = All-nil (λ (span : Span). span.0 < span.1)
filled at (span ∷ rest) h = All-cons (λ (s : Span). s.0 < s.1) span rest h.1 (filled (span.1 + 1) rest h.2)

apart : (at : ℕ) (rest : List Span) → Rise at rest → AllAdjacentBelow (λ span next. span.1 < next.0) rest (length rest)
apart at [] h k d lt = absurd (omega arith)
apart at (span ∷ []) h k d lt = absurd (omega arith)
apart at (span ∷ next ∷ rest) h zero d lt = let behind : span.1 + 1 ≤ next.0 = h.2.0 in omega arith
apart at (span ∷ next ∷ rest) h (suc k) d lt =
    let e : suc k + 1 ≡ suc (k + 1) = omega arith in
    let below : k + 1 < length (next ∷ rest) = omega arith in
    let later : (get_or (next ∷ rest) k d).1 < (get_or (next ∷ rest) (k + 1) d).0 =
    apart (span.1 + 1) (next ∷ rest) h.2 k d below in
    rw e later

-- the byte is within the span, and within one of the spans
abbrev covers : ℕ → Span → Bool
covers place span = leb span.0 place && ltb place span.1

abbrev covered : ℕ → List Span → Bool
covered place rest = list_any (covers place) rest

split : (place a b c : ℕ) → a ≤ b → b ≤ c →
    (leb a place && ltb place c) ≡ ((leb a place && ltb place b) || (leb b place && ltb place c))
split place a b c low high = grind (arith, nat_tests)

or_assoc : (x y z : Bool) → ((x || y) || z) ≡ (x || (y || z))
or_assoc true y z = refl
or_assoc false y z = refl

covered_joined : (place from to : ℕ) (rest : List Span) → from < to → Rise to rest →
    covered place (joined from to rest) ≡ (covers place (from, to) || covered place rest)
covered_joined place from to [] lt h = refl
covered_joined place from to (span ∷ rest) lt h = go (eqb to span.0) refl
  where
    go : (b : Bool) → eqb to span.0 ≡ b →
        covered place (cond b ((from, span.1) ∷ rest) ((from, to) ∷ span ∷ rest)) ≡
        (covers place (from, to) || (covers place span || covered place rest))
    go true e =
        let meet : to ≡ span.0 = eqb-true to span.0 e in
        ap (λ b. b || covered place rest) (split place from to span.1 (le_of_lt lt) (le_trans h.0 (le_of_lt h.1)))
        ∙ or_assoc (covers place (from, to)) (covers place (to, span.1)) (covered place rest)
        ∙ ap (λ n. covers place (from, to) || (covers place (n, span.1) || covered place rest)) meet
    go false e = refl

-- no byte before the spans is within one
not_before : (place at : ℕ) (rest : List Span) → place < at → Rise at rest → covered place rest ≡ false
not_before place at [] lt h = refl
not_before place at (span ∷ rest) lt h =
    let begin : at ≤ span.0 = h.0 in
    let end : span.0 < span.1 = h.1 in
    or_from _ _ (and_left _ _ (lt-leb span.0 place (omega arith))) (not_before place (span.1 + 1) rest (omega arith) h.2)

-- a byte is within a span where its character is a word character
exact : (at : ℕ) (before : List ℕ) (c : ℕ) (after : List ℕ) →
    covered (at + length (encodes before)) (spans at (before ++ c ∷ after)) ≡ is_word_char c
exact at [] c after =
    let next = at + len_utf8 c in
    let here : at + 0 ≡ at = omega arith in
    ap (λ place. covered place (spans at (c ∷ after))) here
    ∙ elim (is_word_char c) as (λ b. covered at (cond b (joined at next (spans next after)) (spans next after)) ≡ b) [
      | true ↦
          covered_joined at at next (spans next after) (wide at c) (spans_rise next after)
          ∙ or_left _ _ (and_from _ _ (le-leb at at (le_refl at)) (lt-ltb at next (wide at c)))
      | false ↦ not_before at next (spans next after) (wide at c) (spans_rise next after)
    ]
exact at (b ∷ before) c after =
    let next = at + len_utf8 b in
    let place = next + length (encodes before) in
    let rest = before ++ c ∷ after in
    let there : at + length (encode b ++ encodes before) ≡ place =
    omega (arith, length-append (encode b) (encodes before), length-encode b) in
    ap (λ p. covered p (spans at (b ∷ rest))) there
    ∙ elim (is_word_char b) as (λ w. covered place (cond w (joined at next (spans next rest)) (spans next rest)) ≡
    is_word_char c) [
      | true ↦
          covered_joined place at next (spans next rest) (wide at b) (spans_rise next rest)
          ∙ ap (λ x. x || covered place (spans next rest))
          (and_right (leb at place) (ltb place next) (le-ltb place next (omega arith)))
          ∙ exact next before c after
      | false ↦ exact next before c after
    ]

module _ (text : List ℕ) (utf8 : IsUtf8 text) where
  edge : (before after : List ℕ) → chars text ≡ before ++ after → IsEdge text (length (encodes before))
  edge before [] is = inl (ap length (ap encodes (sym (append-nil before) ∙ sym is) ∙ encodes-chars text utf8))
  edge before (c ∷ after) is = inr (c, (before, after, is, refl))

  abbrev HasEdges : Span → Type 0
  HasEdges span = IsEdge text span.0 × IsEdge text span.1

  joined_edges : (from to : ℕ) (rest : List Span) → IsEdge text from → IsEdge text to → All HasEdges rest →
      All HasEdges (joined from to rest)
  joined_edges from to [] f t h = All-cons HasEdges (from, to) [] (f, t) h
  joined_edges from to (span ∷ rest) f t h =
      elim (eqb to span.0) as (λ b. All HasEdges (cond b ((from, span.1) ∷ rest) ((from, to) ∷ span ∷ rest))) [
        | true ↦ All-cons HasEdges (from, span.1) rest (f, (All-head HasEdges span rest h).1) (All-tail HasEdges span rest h)
        | false ↦ All-cons HasEdges (from, to) (span ∷ rest) (f, t) h
      ]

  spans_edges : (at : ℕ) (before cs : List ℕ) → chars text ≡ before ++ cs → at ≡ length (encodes before) →
      All HasEdges (spans at cs)
  spans_edges at before [] is from = All-nil HasEdges
  spans_edges at before (c ∷ cs) is from =
      let next = at + len_utf8 c in
      let more : List ℕ = before ++ c ∷ [] in
      let to : next ≡ length (encodes more) =
      ap (λ n. n + len_utf8 c) from ∙ ap (λ n. length (encodes before) + n) (sym (length-encode c) ∙
      ap length (sym (append-nil (encode c))))
      ∙ sym (ap length (encodes-append before (c ∷ [])) ∙ length-append (encodes before) (encodes (c ∷ []))) in
      let then : chars text ≡ more ++ cs = is ∙ sym (append_assoc before (c ∷ []) cs) in
      let rest : All HasEdges (spans next cs) = spans_edges next more cs then to in
      elim (is_word_char c) as (λ b. All HasEdges (cond b (joined at next (spans next cs)) (spans next cs))) [
        | true ↦ joined_edges at next (spans next cs) (rw from (edge before (c ∷ cs) is)) (rw to (edge more cs then)) rest
        | false ↦ rest
      ]

  occurs : (place c : ℕ) → IsCharAt text place c → covered place (spans 0 (chars text)) ≡ is_word_char c
  occurs place c at =
      let whole : 0 + length (encodes at.0) ≡ place = omega (arith, at.3) in
      ap (λ cs. covered place (spans 0 cs)) at.2 ∙ ap (λ p. covered p (spans 0 (at.0 ++ c ∷ at.1))) (sym whole) ∙
      exact 0 at.0 c at.1

some_covers : (place : ℕ) (rest : List Span) → covered place rest ≡ true → Any (Covers place) rest
some_covers place rest is =
    let some = Any-from_list_any (covers place) rest is in
    let parts = and_parts (leb some.1.0 place) (ltb place some.1.1) some.4 in
    (some.0, some.1, some.2, some.3, (leb-true some.1.0 place parts.0, ltb-true place some.1.1 parts.1))

covered_by : (place : ℕ) (rest : List Span) → Any (Covers place) rest → covered place rest ≡ true
covered_by place rest some =
    list_any-from_Any (covers place) rest
    (some.0, some.1, some.2, some.3, and_from _ _ (le-leb some.1.0 place some.4.0) (lt-ltb place some.1.1 some.4.1))

pub words_are_maximal_runs : WordsAreMaximalRuns
unfolding words
words_are_maximal_runs text utf8 = record {
  exact = λ place c at. (
    λ is. some_covers place (spans 0 (chars text)) (occurs text utf8 place c at ∙ is),
    λ some. sym (occurs text utf8 place c at) ∙ covered_by place (spans 0 (chars text)) some,
  );
  filled = filled 0 (spans 0 (chars text)) (spans_rise 0 (chars text));
  edges = spans_edges text utf8 0 [] (chars text) refl refl;
  apart = apart 0 (spans 0 (chars text)) (spans_rise 0 (chars text));
}

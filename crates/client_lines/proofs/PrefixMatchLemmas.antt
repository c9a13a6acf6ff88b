-- How far a line matches the texts of a language.
use Rattle.std.proofs.Common.{◌≡◌, ◌≤◌, ◌<◌, ◌+◌, ◌⊎◌, ◌↔◌, inl, inr, ℕ, Bool, true, false, List, [], ◌∷◌, ◌++◌, length, take, drop, get_or, max, refl, sym, ◌∙◌, ap, subst, length-append, arith}
use Rattle.std.proofs.lemmas.Bool.{cases_lt}
use Rattle.std.proofs.lemmas.List.{nil_from_length, length-take-le, drop_more, take_more}
use Rattle.std.specs.Prelude.{IsTrue, Option, Some, None, ◌||◌}
use Rattle.text_prefixes.specs.Prefixes.{Begins, IsLongestPrefix}
use Rattle.client_lines.specs.Rows.{Behind, Then, IsOfKind, IsLast, IsTail, IsOfRow, IsOfSome, Matches, MatchesSome}
use Rattle.client_lines.specs.declared.row.Last.{Last}
use Rattle.client_lines.specs.declared.row.Last.TheVariants as last
use Rattle.client_lines.specs.declared.row.Row.{Row}
use Rattle.client_lines.specs.declared.row.WordKind.{WordKind}
use Rattle.client_lines.specs.declared.prefix_match.PrefixMatch.{PrefixMatch}
use Rattle.client_lines.proofs.ReachLemmas.{reach_behind, whole_behind, reach_left, not_whole_left}
use Rattle.client_lines.proofs.SpanLemmas.{a_span, a_span_is}
use Rattle.client_lines.proofs.ThenLemmas.{SpanEnds, Opens, reach_then, whole_then, reach_none, not_whole_none, reach_alone, whole_alone}

-- a match of an equal language, by numbers
pub goes_by : (IsText : List ℕ → Type 0) (line : List ℕ) (prefix_match : PrefixMatch) (n : ℕ) → IsLongestPrefix IsText line n →
    prefix_match.count ≡ n → (IsTrue prefix_match.whole ↔ IsText line) → Matches IsText line prefix_match
goes_by IsText line prefix_match n reach is whole = record {
  reach = subst (IsLongestPrefix IsText line) (sym is) reach;
  whole = whole;
}

-- a way that stops
pub goes_stopped : (IsText : List ℕ → Type 0) (line : List ℕ) (prefix_match : PrefixMatch) (n : ℕ) → IsLongestPrefix IsText line n →
    prefix_match.count ≡ n → prefix_match.whole ≡ false → (IsText line → ⊥) → Matches IsText line prefix_match
goes_stopped IsText line prefix_match n reach is stopped none =
    goes_by IsText line prefix_match n reach is
    ((λ so. let h : true ≡ false = sym so ∙ stopped in cc), λ text. absurd (none text))

-- a way that goes on behind a head
pub goes_behind : (IsText : List ℕ → Type 0) (head rest line : List ℕ) (inner prefix_match : PrefixMatch) → line ≡ head ++ rest →
    Matches IsText rest inner → prefix_match.count ≡ length head + inner.count → prefix_match.whole ≡ inner.whole →
    Matches (Behind head IsText) line prefix_match
goes_behind IsText head rest line inner prefix_match is goes count whole =
    subst (λ (l : List ℕ). Matches (Behind head IsText) l prefix_match) (sym is)
    (goes_by (Behind head IsText) (head ++ rest) prefix_match (length head + inner.count)
    (reach_behind IsText head rest inner.count goes.reach) count (
      (λ so. (whole_behind IsText head rest).0 (goes.whole.0 (sym whole ∙ so))),
      λ text. whole ∙ goes.whole.1 ((whole_behind IsText head rest).1 text),
    ))

-- behind a span
pub goes_then : (word_kind : WordKind) (IsText : List ℕ → Type 0) (bytes : List ℕ) (end : ℕ) (inner prefix_match : PrefixMatch) →
    SpanEnds word_kind bytes end → ((more : List ℕ) → IsText more → Opens more) → 0 < end →
    Matches IsText (drop end bytes) inner → prefix_match.count ≡ end + inner.count → prefix_match.whole ≡ inner.whole →
    Matches (Then (IsOfKind word_kind) IsText) bytes prefix_match
goes_then word_kind IsText bytes end inner prefix_match ends opens some goes count whole =
    goes_by (Then (IsOfKind word_kind) IsText) bytes prefix_match (end + inner.count)
    (reach_then word_kind bytes end ends IsText opens some inner.count goes.reach) count (
      (λ so. (whole_then word_kind bytes end ends IsText opens some).0 (goes.whole.0 (sym whole ∙ so))),
      λ text. whole ∙ goes.whole.1 ((whole_then word_kind bytes end ends IsText opens some).1 text),
    )

pub goes_none : (word_kind : WordKind) (IsText : List ℕ → Type 0) (bytes : List ℕ) (end : ℕ) (prefix_match : PrefixMatch) →
    SpanEnds word_kind bytes end → end ≡ 0 → (text : List ℕ) → IsText text → prefix_match.count ≡ 0 → prefix_match.whole ≡ false →
    Matches (Then (IsOfKind word_kind) IsText) bytes prefix_match
goes_none word_kind IsText bytes end prefix_match ends none text is count whole =
    goes_stopped (Then (IsOfKind word_kind) IsText) bytes prefix_match 0 (reach_none word_kind bytes end ends IsText none text is) count whole
    (not_whole_none word_kind bytes end ends IsText none)

-- a text behind a space begins with the space
pub space_opens : (IsText : List ℕ → Type 0) (more : List ℕ) → Behind (0x20 ∷ []) IsText more → Opens more
space_opens IsText more (rest, is, eq) = λ some. ap (λ (l : List ℕ). get_or l 0 0) eq

-- texts of the languages
pub a_last : (last : Last) → (text : List ℕ) × IsLast last text
a_last last.Nothing = ([], refl)
a_last (last.Whole word_kind) = (a_span word_kind, a_span_is word_kind)
a_last last.Rest = ([], tt)

pub a_tail : (middle : Option WordKind) (last : Last) → (text : List ℕ) × IsTail middle last text
a_tail None last = a_last last
a_tail (Some word_kind) last =
    let end = a_last last in
    (a_span word_kind ++ (0x20 ∷ end.0), (a_span word_kind, 0x20 ∷ end.0, a_span_is word_kind, (end.0, end.1, refl), refl))

-- the matches of what ends a line
pub goes_nothing : (bytes : List ℕ) (prefix_match : PrefixMatch) → prefix_match.count ≡ 0 → (IsTrue prefix_match.whole ↔ (length bytes ≡ 0)) →
    Matches (IsLast last.Nothing) bytes prefix_match
goes_nothing bytes prefix_match count whole =
    goes_by (IsLast last.Nothing) bytes prefix_match 0
    (record {
      within = omega arith;
      begins = ([], refl);
      longest = λ more lt le (b : Begins (IsLast last.Nothing) (take more bytes)).
          let len : length (take more bytes ++ b.0) ≡ 0 = ap length b.1 in
          omega (arith, len, length-append (take more bytes) b.0, length-take-le more bytes le);
    })
    count ((λ so. nil_from_length bytes (whole.0 so)), λ none. whole.1 (ap length none))

pub goes_alone : (word_kind : WordKind) (bytes : List ℕ) (end : ℕ) (prefix_match : PrefixMatch) → SpanEnds word_kind bytes end → prefix_match.count ≡ end →
    (IsTrue prefix_match.whole ↔ ((0 < end) × (end ≡ length bytes))) → Matches (IsLast (last.Whole word_kind)) bytes prefix_match
goes_alone word_kind bytes end prefix_match ends count whole =
    goes_by (IsOfKind word_kind) bytes prefix_match end (reach_alone word_kind bytes end ends) count (
      (λ so. (whole_alone word_kind bytes end ends).0 (whole.0 so)),
      λ is. whole.1 ((whole_alone word_kind bytes end ends).1 is),
    )

pub goes_rest : (bytes : List ℕ) (prefix_match : PrefixMatch) → prefix_match.count ≡ length bytes → prefix_match.whole ≡ true →
    Matches (IsLast last.Rest) bytes prefix_match
goes_rest bytes prefix_match count whole =
    goes_by (IsLast last.Rest) bytes prefix_match (length bytes)
    (record {
      within = omega arith;
      begins = ([], tt);
      longest = λ more lt le begins. omega (arith, lt, le);
    })
    count ((λ so. tt), λ any. whole)

-- a space that the bytes lack
pub goes_spaceless : (IsText : List ℕ → Type 0) (bytes : List ℕ) (prefix_match : PrefixMatch) (text : List ℕ) → IsText text →
    ((rest : List ℕ) → bytes ≡ 0x20 ∷ rest → ⊥) → prefix_match.count ≡ 0 → prefix_match.whole ≡ false →
    Matches (Behind (0x20 ∷ []) IsText) bytes prefix_match
goes_spaceless IsText bytes prefix_match text is none count whole =
    let apart : 0 < length bytes → get_or bytes 0 0 ≡ 0x20 → ⊥ = λ some space.
    none (drop 1 bytes) (drop_more bytes 0 0 some ∙ ap (λ (k : ℕ). k ∷ drop 1 bytes) space) in
    goes_stopped (Behind (0x20 ∷ []) IsText) bytes prefix_match 0
    (reach_left IsText (0x20 ∷ []) bytes 0 text is (omega arith) (omega arith) refl apart) count whole
    (not_whole_left IsText (0x20 ∷ []) bytes 0 (omega arith) apart)

-- a head that the line leaves
pub goes_left : (IsText : List ℕ → Type 0) (head line : List ℕ) (n : ℕ) (prefix_match : PrefixMatch) (text : List ℕ) → IsText text →
    n < length head → n ≤ length line → take n line ≡ take n head →
    (n < length line → get_or line n 0 ≡ get_or head n 0 → ⊥) → prefix_match.count ≡ n → prefix_match.whole ≡ false →
    Matches (Behind head IsText) line prefix_match
goes_left IsText head line n prefix_match text is less le same apart count whole =
    goes_stopped (Behind head IsText) line prefix_match n (reach_left IsText head line n text is less le same apart) count whole
    (not_whole_left IsText head line n less apart)

-- of several languages
pub goes_at_most : (IsText : List ℕ → Type 0) (line : List ℕ) (prefix_match : PrefixMatch) → Matches IsText line prefix_match →
    MatchesSome IsText line prefix_match
goes_at_most IsText line prefix_match goes = record {
  within = goes.reach.within;
  begins = λ some. goes.reach.begins;
  longest = goes.reach.longest;
  whole = goes.whole;
}

pub goes_nowhere : (line : List ℕ) (prefix_match : PrefixMatch) → prefix_match.count ≡ 0 → prefix_match.whole ≡ false → MatchesSome (λ l. ⊥) line prefix_match
goes_nowhere line prefix_match count whole = record {
  within = omega arith;
  begins = λ some. absurd (omega (arith, some, count));
  longest = λ more lt le (b : Begins (λ (l : List ℕ). ⊥) (take more line)). b.1;
  whole = ((λ so. let h : true ≡ false = sym so ∙ whole in cc), λ none. absurd none);
}

module _ (A B : List ℕ → Type 0) (line : List ℕ) (a b prefix_match : PrefixMatch) (ga : MatchesSome A line a) (gb : MatchesSome B line b)
    (count : prefix_match.count ≡ max a.count b.count) (whole : prefix_match.whole ≡ (a.whole || b.whole)) where
  or_there : (p q : Bool) → IsTrue (p || q) → IsTrue p ⊎ IsTrue q
  or_there true q so = inl refl
  or_there false q so = inr so

  or_left : (p q : Bool) → IsTrue p → IsTrue (p || q)
  or_left true q so = refl
  or_left false q so = cc

  or_right : (p q : Bool) → IsTrue q → IsTrue (p || q)
  or_right true q so = refl
  or_right false q so = so

  begins_or : 0 < prefix_match.count → ((a.count < b.count) ⊎ (b.count ≤ a.count)) →
      Begins (λ l. A l ⊎ B l) (take prefix_match.count line)
  begins_or some (inl lt) =
      let at : prefix_match.count ≡ b.count = omega (arith, count, lt) in
      let begins = gb.begins (omega arith) in
      subst (λ (k : ℕ). Begins (λ l. A l ⊎ B l) (take k line)) (sym at) (begins.0, inr begins.1)
  begins_or some (inr le) =
      let at : prefix_match.count ≡ a.count = omega (arith, count, le) in
      let begins = ga.begins (omega arith) in
      subst (λ (k : ℕ). Begins (λ l. A l ⊎ B l) (take k line)) (sym at) (begins.0, inl begins.1)

  longest_or : (more : ℕ) → prefix_match.count < more → more ≤ length line → Begins (λ l. A l ⊎ B l) (take more line) → ⊥
  longest_or more lt le (x, inl is) = ga.longest more (omega (arith, count, lt)) le (x, is)
  longest_or more lt le (x, inr is) = gb.longest more (omega (arith, count, lt)) le (x, is)

  whole_there : (IsTrue a.whole ⊎ IsTrue b.whole) → A line ⊎ B line
  whole_there (inl so) = inl (ga.whole.0 so)
  whole_there (inr so) = inr (gb.whole.0 so)

  whole_back : (A line ⊎ B line) → IsTrue (a.whole || b.whole)
  whole_back (inl is) = or_left a.whole b.whole (ga.whole.1 is)
  whole_back (inr is) = or_right a.whole b.whole (gb.whole.1 is)

  pub goes_or : MatchesSome (λ l. A l ⊎ B l) line prefix_match
  goes_or = record {
    within = omega (arith, count, ga.within, gb.within);
    begins = λ some. begins_or some (cases_lt a.count b.count);
    longest = longest_or;
    whole = ((λ so. whole_there (or_there a.whole b.whole (sym whole ∙ so))), λ text. whole ∙ whole_back text);
  }

-- a match of the same texts
pub goes_same : (A B : List ℕ → Type 0) (line : List ℕ) (prefix_match : PrefixMatch) → ((l : List ℕ) → A l → B l) →
    ((l : List ℕ) → B l → A l) → MatchesSome A line prefix_match → MatchesSome B line prefix_match
goes_same A B line prefix_match there back goes = record {
  within = goes.within;
  begins = λ some. let b = goes.begins some in (b.0, there (take prefix_match.count line ++ b.0) b.1);
  longest = λ more lt le (b : Begins B (take more line)).
      goes.longest more lt le (b.0, back (take more line ++ b.0) b.1);
  whole = ((λ so. there line (goes.whole.0 so)), λ text. goes.whole.1 (back line text));
}

-- of the rows and one more
pub some_more : (rows : List Row) (row : Row) (line : List ℕ) → IsOfSome rows line ⊎ IsOfRow row line →
    IsOfSome (rows ++ row ∷ []) line
some_more [] row line (inr is) = inl is
some_more [] row line (inl none) = absurd none
some_more (first ∷ rows) row line (inl (inl is)) = inl is
some_more (first ∷ rows) row line (inl (inr is)) = inr (some_more rows row line (inl is))
some_more (first ∷ rows) row line (inr is) = inr (some_more rows row line (inr is))

pub some_less : (rows : List Row) (row : Row) (line : List ℕ) → IsOfSome (rows ++ row ∷ []) line →
    IsOfSome rows line ⊎ IsOfRow row line
some_less [] row line (inl is) = inr is
some_less [] row line (inr none) = absurd none
some_less (first ∷ rows) row line (inl is) = inl (inl is)
some_less (first ∷ rows) row line (inr is) = by (some_less rows row line is)
  where
    by : (IsOfSome rows line ⊎ IsOfRow row line) → IsOfSome (first ∷ rows) line ⊎ IsOfRow row line
    by (inl among) = inl (inr among)
    by (inr own) = inr own

-- a match of one row more
pub goes_one_more : (rows : List Row) (i : ℕ) (d : Row) (line : List ℕ) (a b prefix_match : PrefixMatch) → i < length rows →
    MatchesSome (IsOfSome (take i rows)) line a → Matches (IsOfRow (get_or rows i d)) line b →
    prefix_match.count ≡ max a.count b.count → prefix_match.whole ≡ (a.whole || b.whole) →
    MatchesSome (IsOfSome (take (i + 1) rows)) line prefix_match
goes_one_more rows i d line a b prefix_match lt ga gb count whole =
    let more : take (i + 1) rows ≡ take i rows ++ get_or rows i d ∷ [] = take_more rows i d lt in
    goes_same (λ l. IsOfSome (take i rows) l ⊎ IsOfRow (get_or rows i d) l) (IsOfSome (take (i + 1) rows)) line prefix_match
    (λ l is. subst (λ (rs : List Row). IsOfSome rs l) (sym more) (some_more (take i rows) (get_or rows i d) l is))
    (λ l is. some_less (take i rows) (get_or rows i d) l (subst (λ (rs : List Row). IsOfSome rs l) more is))
    (goes_or (IsOfSome (take i rows)) (IsOfRow (get_or rows i d)) line a b prefix_match ga
    (goes_at_most (IsOfRow (get_or rows i d)) line b gb) count whole)

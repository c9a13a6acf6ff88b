-- How far bytes go along a span and texts of a language behind it.
use Rattle.std.proofs.Common.{◌≡◌, ◌≤◌, ◌<◌, ◌+◌, ◌-◌, ◌⊎◌, ◌↔◌, inl, inr, ℕ, List, [], ◌++◌, length, take, drop, get_or, refl, sym, ◌∙◌, ap, subst, append_assoc, length-append, length-drop, arith}
use Rattle.std.proofs.lemmas.Bool.{cases_lt}
use Rattle.std.proofs.lemmas.List.{take-append-drop, append_cancel_left, append-nil, take_all, take-take, take-append-le, take_at, get_or_append_left, get_or-take, length-take-le, get_or-append-add}
use Rattle.std.proofs.lemmas.List.Elements.{All-get_or}
use Rattle.text_prefixes.specs.Prefixes.{Begins, IsLongestPrefix}
use Rattle.text_prefixes.proofs.PrefixLemmas.{take_more}
use Rattle.client_lines.specs.Rows.{Then, IsOfKind}
use Rattle.client_lines.specs.declared.row.WordKind.{WordKind}
use Rattle.client_lines.proofs.SpanLemmas.{span_clean, span_some, a_span, a_span_is, shorter_span}
use Rattle.transcript.proofs.FormLemmas.{IsNoSpace}

-- empty, or a space begins it
abbrev pub Opens : List ℕ → Type 0
Opens more = 0 < length more → get_or more 0 0 ≡ 0x20

-- the bytes have a span up to there, and no longer one
pub record SpanEnds (word_kind : WordKind) (bytes : List ℕ) (end : ℕ) : Type 0 where
  pub most : end ≤ length bytes
  pub is : 0 < end → IsOfKind word_kind (take end bytes)
  pub longest : (n : ℕ) → end < n → n ≤ length bytes → IsOfKind word_kind (take n bytes) → ⊥

module _ (word_kind : WordKind) (bytes : List ℕ) (end : ℕ) (ends : SpanEnds word_kind bytes end) where
  module _ (m : ℕ) (x front more : List ℕ) (le : m ≤ length bytes) (is : IsOfKind word_kind front)
      (eq : take m bytes ++ x ≡ front ++ more) where
    -- what begins so has a span of the bytes in front, where that doesn't pass them
    front_within : length front ≤ m → front ≡ take (length front) bytes
    front_within short =
        sym (take_at front more (length front) refl)
        ∙ (ap (λ (l : List ℕ). take (length front) l) (sym eq)
        ∙ (take-append-le (length front) (take m bytes) x (omega (arith, length-take-le m bytes le))
        ∙ take-take (length front) m bytes short))

    -- else the bytes are one
    front_past : m < length front → 0 < m → IsOfKind word_kind (take m bytes)
    front_past long some =
        let same : take m bytes ≡ take m front =
        sym (take_at (take m bytes) x m (length-take-le m bytes le))
        ∙ (ap (λ (l : List ℕ). take m l) eq ∙ take-append-le m front more (omega arith)) in
        subst (IsOfKind word_kind) (sym same)
        (shorter_span word_kind (take m front) (drop m front) (omega (arith, length-take-le m front (omega arith)))
        (subst (IsOfKind word_kind) (sym (take-append-drop m front)) is))

    -- no shorter one, since no space is in it
    front_not_short : Opens more → end ≤ m → length front < end → ⊥
    front_not_short opens in' short =
        let len : length (take m bytes) + length x ≡ length front + length more =
        sym (length-append (take m bytes) x) ∙ (ap length eq ∙ length-append front more) in
        let mine : get_or (take m bytes ++ x) (length front) 0 ≡ get_or bytes (length front) 0 =
        get_or_append_left (take m bytes) x 0 (length front) (omega (arith, length-take-le m bytes le))
        ∙ get_or-take m bytes (length front) 0 (omega arith) in
        let zero_more : length front ≡ length front + 0 = omega arith in
        let theirs : get_or (front ++ more) (length front) 0 ≡ get_or more 0 0 =
        ap (λ (k : ℕ). get_or (front ++ more) k 0) zero_more ∙ get_or-append-add front more 0 0 in
        let space : get_or more 0 0 ≡ 0x20 = opens (omega (arith, length-take-le m bytes le)) in
        let clean : IsNoSpace (get_or (take end bytes) (length front) 0) =
        All-get_or IsNoSpace (take end bytes) (length front) 0 (omega (arith, length-take-le end bytes ends.most))
        (span_clean word_kind (take end bytes) (ends.is (omega arith))) in
        clean (get_or-take end bytes (length front) 0 short
        ∙ (sym mine ∙ (ap (λ (l : List ℕ). get_or l (length front) 0) eq ∙ (theirs ∙ space))))

    -- so it ends where the span does, or the bytes do
    front_ends : Opens more → 0 < end → end ≤ m → (length front ≡ end) ⊎ (m < length front) × (m ≡ end)
    front_ends opens some in' = by (cases_lt m (length front))
      where
        by : ((m < length front) ⊎ (length front ≤ m)) → (length front ≡ end) ⊎ (m < length front) × (m ≡ end)
        by (inl long) =
            let not_more : end < m → ⊥ = λ lt. ends.longest m lt le (front_past long (omega arith)) in
            inr (long, omega (arith, not_more))
        by (inr short) =
            let not_more : end < length front → ⊥ = λ lt. ends.longest (length front) lt (omega arith)
            (subst (IsOfKind word_kind) (front_within short) is) in
            let not_less : length front < end → ⊥ = front_not_short opens in' in
            inl (omega (arith, not_more, not_less))

    -- where no span begins the bytes, nothing of them begins so
    none_begins : end ≡ 0 → 0 < m → ⊥
    none_begins none some = by (cases_lt m (length front))
      where
        by : ((m < length front) ⊎ (length front ≤ m)) → ⊥
        by (inl long) = ends.longest m (omega arith) le (front_past long some)
        by (inr short) = ends.longest (length front) (omega (arith, span_some word_kind front is)) (omega arith)
            (subst (IsOfKind word_kind) (front_within short) is)

    behind_front : length front ≡ end → end ≤ m → more ≡ take (m - end) (drop end bytes) ++ x
    behind_front at in' =
        let same : front ≡ take end bytes = front_within (omega arith) ∙ ap (λ (k : ℕ). take k bytes) at in
        sym (append_cancel_left (take end bytes) (take (m - end) (drop end bytes) ++ x) more
        (sym (append_assoc (take end bytes) (take (m - end) (drop end bytes)) x)
        ∙ (ap (λ (l : List ℕ). l ++ x) (sym (take_more bytes end m in'))
        ∙ (eq ∙ ap (λ (l : List ℕ). l ++ more) same))))

  module _ (IsText : List ℕ → Type 0) where
    pub reach_then : ((more : List ℕ) → IsText more → Opens more) → 0 < end → (n : ℕ) →
        IsLongestPrefix IsText (drop end bytes) n → IsLongestPrefix (Then (IsOfKind word_kind) IsText) bytes (end + n)
    reach_then opens some n reach = record {
      within = omega (arith, reach.within, length-drop end bytes, ends.most);
      begins = begins reach.begins;
      longest = longest;
    }
      where
        minus : (end + n) - end ≡ n
        minus = omega arith

        begins : Begins IsText (take n (drop end bytes)) → Begins (Then (IsOfKind word_kind) IsText) (take (end + n) bytes)
        begins (x, is) =
            let cut : take (end + n) bytes ≡ take end bytes ++ take n (drop end bytes) =
            take_more bytes end (end + n) (omega arith)
            ∙ ap (λ (k : ℕ). take end bytes ++ take k (drop end bytes)) minus in (
              x,
              (
                take end bytes,
                take n (drop end bytes) ++ x,
                ends.is some,
                is,
                ap (λ (l : List ℕ). l ++ x) cut ∙ append_assoc (take end bytes) (take n (drop end bytes)) x,
              ),
            )

        longest : (m : ℕ) → end + n < m → m ≤ length bytes → Begins (Then (IsOfKind word_kind) IsText) (take m bytes) → ⊥
        longest m lt le (x, (front, more, is, text, eq)) =
            by (front_ends m x front more le is eq (opens more text) some (omega arith))
          where
            by : ((length front ≡ end) ⊎ (m < length front) × (m ≡ end)) → ⊥
            by (inl at) = reach.longest (m - end) (omega arith) (omega (arith, length-drop end bytes))
                (x, subst IsText (behind_front m x front more le is eq at (omega arith)) text)
            by (inr (long, at)) = omega (arith, lt, at)

    pub whole_then : ((more : List ℕ) → IsText more → Opens more) → 0 < end →
        IsText (drop end bytes) ↔ Then (IsOfKind word_kind) IsText bytes
    whole_then opens some =
        (λ text. (take end bytes, drop end bytes, ends.is some, text, sym (take-append-drop end bytes)), back)
      where
        back : Then (IsOfKind word_kind) IsText bytes → IsText (drop end bytes)
        back (front, more, is, text, eq) =
            by (front_ends (length bytes) [] front more (omega arith) is all (opens more text) some ends.most)
          where
            all : take (length bytes) bytes ++ [] ≡ front ++ more
            all = append-nil (take (length bytes) bytes) ∙ (take_all (length bytes) bytes (omega arith) ∙ eq)

            by : ((length front ≡ end) ⊎ (length bytes < length front) × (length bytes ≡ end)) → IsText (drop end bytes)
            by (inl at) =
                let more_is = behind_front (length bytes) [] front more (omega arith) is all at ends.most in
                subst IsText (more_is ∙ (append-nil (take (length bytes - end) (drop end bytes))
                ∙ take_all (length bytes - end) (drop end bytes) (omega (arith, length-drop end bytes)))) text
            by (inr (long, at)) =
                let len : length bytes ≡ length front + length more = ap length eq ∙ length-append front more in
                absurd (omega arith)

    -- where no span begins the bytes
    pub reach_none : end ≡ 0 → (text : List ℕ) → IsText text → IsLongestPrefix (Then (IsOfKind word_kind) IsText) bytes 0
    reach_none none text is = record {
      within = omega arith;
      begins = (a_span word_kind ++ text, (a_span word_kind, text, a_span_is word_kind, is, refl));
      longest = λ (m : ℕ) lt le (b : Begins (Then (IsOfKind word_kind) IsText) (take m bytes)).
          none_begins m b.0 b.1.0 b.1.1 le b.1.2 b.1.4 none lt;
    }

    pub not_whole_none : end ≡ 0 → Then (IsOfKind word_kind) IsText bytes → ⊥
    not_whole_none none (front, more, is, text, eq) =
        let len : length bytes ≡ length front + length more = ap length eq ∙ length-append front more in
        let all : take (length bytes) bytes ++ [] ≡ front ++ more =
        append-nil (take (length bytes) bytes) ∙ (take_all (length bytes) bytes (omega arith) ∙ eq) in
        none_begins (length bytes) [] front more (omega arith) is all none (omega (arith, span_some word_kind front is))

  -- a span alone
  pub reach_alone : IsLongestPrefix (IsOfKind word_kind) bytes end
  reach_alone = record {
    within = ends.most;
    begins = begins (cases_lt 0 end);
    longest = λ (m : ℕ) lt le (b : Begins (IsOfKind word_kind) (take m bytes)). ends.longest m lt le
        (shorter_span word_kind (take m bytes) b.0 (omega (arith, length-take-le m bytes le)) b.1);
  }
    where
      begins : ((0 < end) ⊎ (end ≤ 0)) → Begins (IsOfKind word_kind) (take end bytes)
      begins (inl some) = ([], subst (IsOfKind word_kind) (sym (append-nil (take end bytes))) (ends.is some))
      begins (inr none) =
          let at : 0 ≡ end = omega arith in
          subst (λ (k : ℕ). Begins (IsOfKind word_kind) (take k bytes)) at (a_span word_kind, a_span_is word_kind)

  pub whole_alone : ((0 < end) × (end ≡ length bytes)) ↔ IsOfKind word_kind bytes
  whole_alone = (there, back)
    where
      there : ((0 < end) × (end ≡ length bytes)) → IsOfKind word_kind bytes
      there h = subst (IsOfKind word_kind) (take_all end bytes (omega (arith, h.1))) (ends.is h.0)

      back : IsOfKind word_kind bytes → (0 < end) × (end ≡ length bytes)
      back is =
          let some : 0 < length bytes = span_some word_kind bytes is in
          let not_less : end < length bytes → ⊥ = λ lt. ends.longest (length bytes) lt (omega arith)
          (subst (IsOfKind word_kind) (sym (take_all (length bytes) bytes (omega arith))) is) in
          (omega (arith, not_less, ends.most), omega (arith, not_less, ends.most))

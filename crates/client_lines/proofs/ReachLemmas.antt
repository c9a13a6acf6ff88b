-- How far bytes go along the texts of a language that is made of others.
use Rattle.std.proofs.Common.{◌≡◌, ◌≤◌, ◌<◌, ◌+◌, ◌-◌, ◌↔◌, ℕ, List, ◌++◌, length, take, drop, get_or, refl, sym, ◌∙◌, ap, subst, append_assoc, length-append, arith}
use Rattle.std.proofs.lemmas.List.{take-append-drop, append_cancel_left, take_at, drop_at, get_or_append_left, get_or-take, length-take-le}
use Rattle.text_prefixes.specs.Prefixes.{Begins, IsLongestPrefix}
use Rattle.text_prefixes.proofs.PrefixLemmas.{take_more}
use Rattle.client_lines.specs.Rows.{Behind}

-- a prefix that has the head has a prefix of the rest behind it
take_behind : (head rest : List ℕ) (n : ℕ) → take (length head + n) (head ++ rest) ≡ head ++ take n rest
take_behind head rest n =
    take_more (head ++ rest) (length head) (length head + n) (omega arith)
    ∙ (ap (λ (l : List ℕ). l ++ take ((length head + n) - length head) (drop (length head) (head ++ rest)))
    (take_at head rest (length head) refl)
    ∙ (ap (λ (k : ℕ). head ++ take k (drop (length head) (head ++ rest))) minus
    ∙ ap (λ (l : List ℕ). head ++ take n l) (drop_at head rest (length head) refl)))
  where
    minus : (length head + n) - length head ≡ n
    minus = omega arith

-- behind a head
pub reach_behind : (IsText : List ℕ → Type 0) (head rest : List ℕ) (n : ℕ) → IsLongestPrefix IsText rest n →
    IsLongestPrefix (Behind head IsText) (head ++ rest) (length head + n)
reach_behind IsText head rest n reach = record {
  within = omega (arith, reach.within, length-append head rest);
  begins = begins reach.begins;
  longest = longest;
}
  where
    begins : Begins IsText (take n rest) → Begins (Behind head IsText) (take (length head + n) (head ++ rest))
    begins (x, is) = (
      x,
      (
        take n rest ++ x,
        is,
        ap (λ (l : List ℕ). l ++ x) (take_behind head rest n) ∙ append_assoc head (take n rest) x,
      ),
    )

    longest : (more : ℕ) → length head + n < more → more ≤ length (head ++ rest) →
        Begins (Behind head IsText) (take more (head ++ rest)) → ⊥
    longest more less le (x, (y, is, eq)) =
        let at : more ≡ length head + (more - length head) = omega arith in
        let front : take more (head ++ rest) ≡ head ++ take (more - length head) rest =
        ap (λ (k : ℕ). take k (head ++ rest)) at ∙ take_behind head rest (more - length head) in
        let same : take (more - length head) rest ++ x ≡ y =
        append_cancel_left head (take (more - length head) rest ++ x) y
        (sym (append_assoc head (take (more - length head) rest) x)
        ∙ (ap (λ (l : List ℕ). l ++ x) (sym front) ∙ eq)) in
        reach.longest (more - length head) (omega arith) (omega (arith, length-append head rest))
        (x, subst IsText (sym same) is)

pub whole_behind : (IsText : List ℕ → Type 0) (head rest : List ℕ) → IsText rest ↔ Behind head IsText (head ++ rest)
whole_behind IsText head rest =
    (λ is. (rest, is, refl), λ (h : Behind head IsText (head ++ rest)). subst IsText (sym (append_cancel_left head rest h.0 h.2)) h.1)

-- a head that the bytes leave
pub reach_left : (IsText : List ℕ → Type 0) (head line : List ℕ) (n : ℕ) (text : List ℕ) → IsText text →
    n < length head → n ≤ length line → take n line ≡ take n head →
    (n < length line → get_or line n 0 ≡ get_or head n 0 → ⊥) → IsLongestPrefix (Behind head IsText) line n
reach_left IsText head line n text is less le same apart = record {
  within = le;
  begins = (
    drop n head ++ text,
    (
      text,
      is,
      ap (λ (l : List ℕ). l ++ (drop n head ++ text)) same
          ∙ (sym (append_assoc (take n head) (drop n head) text) ∙ ap (λ (l : List ℕ). l ++ text) (take-append-drop n head)),
    ),
  );
  longest = λ more lt within. longest more lt within;
}
  where
    longest : (more : ℕ) → n < more → more ≤ length line → Begins (Behind head IsText) (take more line) → ⊥
    longest more lt within (x, (y, own, eq)) =
        let len : length (take more line) ≡ more = length-take-le more line within in
        let left : get_or (take more line ++ x) n 0 ≡ get_or line n 0 =
        get_or_append_left (take more line) x 0 n (omega arith) ∙ get_or-take more line n 0 lt in
        let right : get_or (head ++ y) n 0 ≡ get_or head n 0 = get_or_append_left head y 0 n less in
        apart (omega arith) (sym left ∙ (ap (λ (l : List ℕ). get_or l n 0) eq ∙ right))

pub not_whole_left : (IsText : List ℕ → Type 0) (head line : List ℕ) (n : ℕ) → n < length head →
    (n < length line → get_or line n 0 ≡ get_or head n 0 → ⊥) → Behind head IsText line → ⊥
not_whole_left IsText head line n less apart (y, is, eq) =
    let right : get_or line n 0 ≡ get_or head n 0 =
    ap (λ (l : List ℕ). get_or l n 0) eq ∙ get_or_append_left head y 0 n less in
    let long : length line ≡ length head + length y = ap length eq ∙ length-append head y in
    apart (omega arith) right

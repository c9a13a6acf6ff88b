-- Lemmas of prefixes.
use Rattle.std.proofs.Common.{◌≡◌, ℕ, ◌+◌, ◌-◌, ◌<◌, ◌≤◌, ◌⊎◌, inl, inr, List, ◌++◌, length, take, drop, ap, subst, ◌∙◌, append_assoc, arith}
use Rattle.std.proofs.Math.Seq.{take-add}
use Rattle.std.proofs.lemmas.Bool.{cases_order}
use Rattle.text_prefixes.specs.Prefixes.{Begins, IsLongestPrefix}

-- what begins a text so begins it with less too
pub begins_with_less : (IsText : List ℕ → Type 0) (front more : List ℕ) → Begins IsText (front ++ more) →
    Begins IsText front
begins_with_less IsText front more (behind, is) = (more ++ behind, subst IsText (append_assoc front more behind) is)

-- a prefix of a prefix
pub take_more : (bytes : List ℕ) (n more : ℕ) → n ≤ more
    → take more bytes ≡ take n bytes ++ take (more - n) (drop n bytes)
take_more bytes n more le =
    let sum : more ≡ n + (more - n) = omega arith in
    ap (λ (k : ℕ). take k bytes) sum ∙ take-add n (more - n) bytes

-- a prefix that begins a text is the longest where no text begins with one byte more
pub longest_by_one_more : (IsText : List ℕ → Type 0) (bytes : List ℕ) (count : ℕ) → count ≤ length bytes →
    Begins IsText (take count bytes) → (count < length bytes → Begins IsText (take (count + 1) bytes) → ⊥) →
    IsLongestPrefix IsText bytes count
longest_by_one_more IsText bytes count within begins stuck = record {
  within = within;
  begins = begins;
  longest = λ more less le is. stuck (omega arith)
      (begins_with_less IsText (take (count + 1) bytes) (take (more - (count + 1)) (drop (count + 1) bytes))
      (subst (Begins IsText) (take_more bytes (count + 1) more (omega arith)) is));
}

-- of the prefixes that begin a text of the language, one at most is the longest
pub one_prefix_is_longest : (IsText : List ℕ → Type 0) (bytes : List ℕ) (m n : ℕ) →
    IsLongestPrefix IsText bytes m → IsLongestPrefix IsText bytes n → m ≡ n
one_prefix_is_longest IsText bytes m n a b = by (cases_order m n)
  where
    by : ((m ≡ n) ⊎ ((m < n) ⊎ (n < m))) → m ≡ n
    by (inl same) = same
    by (inr (inl less)) = absurd (a.longest n less b.within b.begins)
    by (inr (inr more)) = absurd (b.longest m more a.within a.begins)

-- What it is for spans to be the maximal runs of word characters of a text.
use Rattle.std.specs.Prelude.{ℕ, ◌≡◌, ◌<◌, ◌≤◌, ◌↔◌, ◌⊎◌, true, List, ◌∷◌, ◌++◌, length, All, Any, chars, encode_utf8_all}
use Rattle.std.specs.List.{AllAdjacentBelow}
use Rattle.doc_meaning.specs.Words.{Span, is_word_char}

-- a character begins at this byte of the text
abbrev pub IsCharAt : List ℕ → ℕ → ℕ → Type 0
IsCharAt text place c = (before : List ℕ) × (after : List ℕ) × (chars text ≡ before ++ c ∷ after) ×
    (place ≡ length (encode_utf8_all before))

-- the byte is within the span
abbrev pub Covers : ℕ → Span → Type 0
Covers place span = (span.0 ≤ place) × (place < span.1)

-- a character begins at this byte, or the text ends there
abbrev pub IsEdge : List ℕ → ℕ → Type 0
IsEdge text place = (place ≡ length text) ⊎ ((c : ℕ) × IsCharAt text place c)

-- a character is a word character exactly where a span covers it; each span has a character, its ends are edges of
-- characters, and between two spans there is a byte; so the neighbours of a span are no word characters, and none is left out
pub record AreMaximalRuns (text : List ℕ) (spans : List Span) : Type 0 where
  pub exact : (place c : ℕ) → IsCharAt text place c → (is_word_char c ≡ true) ↔ Any (Covers place) spans
  pub filled : All (λ span. span.0 < span.1) spans
  pub edges : All (λ span. IsEdge text span.0 × IsEdge text span.1) spans
  pub apart : AllAdjacentBelow (λ span next. span.1 < next.0) spans (length spans)

-- The lines of the forms as rows, with which a line is matched: a text, perhaps a word or a timestamp and a space behind it,
-- and what is last.
use Rattle.std.specs.Prelude.{ℕ, ◌≡◌, ◌<◌, ◌≤◌, ◌⊎◌, ◌↔◌, List, [], ◌∷◌, ◌++◌, length, take, Option, Some, None, IsTrue}
use Rattle.std.specs.Fmt.{decimal}
use Rattle.doc_meaning.specs.Replies.{last_timestamp}
use Rattle.text_prefixes.specs.Prefixes.{Begins, IsLongestPrefix}
use Rattle.transcript.specs.Forms.{IsWord}
use Rattle.client_lines.specs.declared.row.Last.{Last}
use Rattle.client_lines.specs.declared.row.Last.TheVariants as last
use Rattle.client_lines.specs.declared.row.Row.{Row}
use Rattle.client_lines.specs.declared.row.WordKind.{WordKind}
use Rattle.client_lines.specs.declared.row.WordKind.TheVariants.{Word, Timestamp}
use Rattle.client_lines.specs.declared.prefix_match.PrefixMatch.{PrefixMatch}

-- digits of a number up to the last timestamp, without a leading zero
abbrev pub IsTimestamp : List ℕ → Type 0
IsTimestamp digits = (t : ℕ) × (t ≤ last_timestamp) × (digits ≡ decimal t)

abbrev pub IsOfKind : WordKind → List ℕ → Type 0
IsOfKind Word bytes = IsWord bytes
IsOfKind Timestamp bytes = IsTimestamp bytes

abbrev pub IsLast : Last → List ℕ → Type 0
IsLast last.Nothing bytes = bytes ≡ []
IsLast (last.Whole word_kind) bytes = IsOfKind word_kind bytes
IsLast last.Rest bytes = Unit {0}

-- a text of the language behind a head
abbrev pub Behind : List ℕ → (List ℕ → Type 0) → List ℕ → Type 0
Behind head IsText bytes = (more : List ℕ) × IsText more × (bytes ≡ head ++ more)

-- a text of one language and one of another behind it
abbrev pub Then : (List ℕ → Type 0) → (List ℕ → Type 0) → List ℕ → Type 0
Then IsFront IsText bytes = (front : List ℕ) × (more : List ℕ) × IsFront front × IsText more × (bytes ≡ front ++ more)

-- what is behind the head of a row
abbrev pub IsTail : Option WordKind → Last → List ℕ → Type 0
IsTail None last bytes = IsLast last bytes
IsTail (Some word_kind) last bytes = Then (IsOfKind word_kind) (Behind (0x20 ∷ []) (IsLast last)) bytes

abbrev pub IsOfRow : Row → List ℕ → Type 0
IsOfRow row bytes = Behind row.head.now (IsTail row.middle row.last) bytes

-- of some of the rows
abbrev pub IsOfSome : List Row → List ℕ → Type 0
IsOfSome [] bytes = ⊥
IsOfSome (row ∷ rows) bytes = IsOfRow row bytes ⊎ IsOfSome rows bytes

-- how far a line matches texts of a language, and whether it is one
pub record Matches (IsText : List ℕ → Type 0) (line : List ℕ) (prefix_match : PrefixMatch) : Type 0 where
  pub reach : IsLongestPrefix IsText line prefix_match.count
  pub whole : IsTrue prefix_match.whole ↔ IsText line

-- the same of a language that may have no text: 0 then
pub record MatchesSome (IsText : List ℕ → Type 0) (line : List ℕ) (prefix_match : PrefixMatch) : Type 0 where
  pub within : prefix_match.count ≤ length line
  pub begins : 0 < prefix_match.count → Begins IsText (take prefix_match.count line)
  pub longest : (more : ℕ) → prefix_match.count < more → more ≤ length line → Begins IsText (take more line) → ⊥
  pub whole : IsTrue prefix_match.whole ↔ IsText line

-- the digits of a number, none of none
abbrev pub digits_of : Option ℕ → List ℕ
digits_of None = []
digits_of (Some n) = decimal n

-- the number of the digits and one more, if they are a timestamp
abbrev pub IsNext : Option ℕ → ℕ → Option ℕ → Type 0
IsNext value byte None = (t : ℕ) → t ≤ last_timestamp → decimal t ≡ digits_of value ++ byte ∷ [] → ⊥
IsNext value byte (Some t) = (t ≤ last_timestamp) × (decimal t ≡ digits_of value ++ byte ∷ [])

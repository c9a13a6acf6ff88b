-- Prefixes of the texts of a language.
use Rattle.std.specs.Prelude.{ℕ, ◌<◌, ◌≤◌, List, ◌++◌, length, take}

-- some text of the language begins so
abbrev pub Begins : (List ℕ → Type 0) → List ℕ → Type 0
Begins IsText front = (more : List ℕ) × IsText (front ++ more)

-- of the prefixes of the bytes that begin a text of the language, the longest has this length
pub record IsLongestPrefix (IsText : List ℕ → Type 0) (bytes : List ℕ) (count : ℕ) : Type 0 where
  pub within : count ≤ length bytes
  pub begins : Begins IsText (take count bytes)
  pub longest : (more : ℕ) → count < more → more ≤ length bytes → Begins IsText (take more bytes) → ⊥

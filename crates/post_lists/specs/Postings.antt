-- The bytes of a list of postings.
use Rattle.std.specs.Prelude.{◌≡◌, ℕ, zero, suc, ◌+◌, ◌-◌, ◌/◌, ◌%◌, ◌<◌, nat_lt, List, [], ◌∷◌, ◌++◌, length}
use Rattle.std.specs.Prelude.{if◌then◌else◌}
use Rattle.std.specs.List.{AllByRecursion}
use Rattle.std.specs.List.Sorted.{IsStrictlyIncreasing}

-- a number in at most so many bytes: seven bits in each, the lowest first; all bytes but the last are 128 or more
unfoldable pub digits : ℕ → ℕ → List ℕ
digits zero n = []
digits (suc most) n = if nat_lt n 128 then n ∷ [] else (128 + n % 128) ∷ digits most (n / 128)

-- a number below 2 ^ 35 as unsigned LEB128 in its shortest form
abbrev pub number : ℕ → List ℕ
number n = digits 5 n

-- the items after another one, each as the difference from the one before it
abbrev pub spelling_after : ℕ → List ℕ → List ℕ
spelling_after last [] = []
spelling_after last (x ∷ xs) = number (x - last) ++ spelling_after x xs

-- the first item itself, and then the differences
abbrev pub spelling : List ℕ → List ℕ
spelling items = spelling_after 0 items

-- items that rise strictly, and are below a bound
pub record ArePostings (below : ℕ) (items : List ℕ) : Type 0 where
  pub rising : IsStrictlyIncreasing items
  pub each : AllByRecursion (λ x. x < below) items

-- the bytes are the postings of so many items below a bound
pub record Spells (count below : ℕ) (bytes items : List ℕ) : Type 0 where
  pub postings : ArePostings below items
  pub counted : length items ≡ count
  pub spelled : bytes ≡ spelling items

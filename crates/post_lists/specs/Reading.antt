-- What bytes are read as, and where they aren't postings.
use Rattle.std.specs.Prelude.{◌≡◌, ℕ, ◌-◌, ◌^◌, ◌<◌, ◌≤◌, List, [], ◌∷◌, ◌++◌, length, take, Option, Some, None, Result}
use Rattle.std.specs.Prelude.{Ok, Err}
use Rattle.std.specs.Borrow.{Bor}
use Rattle.post_lists.specs.Numbers.{last_of}
use Rattle.post_lists.specs.Postings.{ArePostings, Spells, number, spelling}
use Rattle.post_lists.specs.declared.refusal.ListRefusal.{ListRefusal}
use Rattle.post_lists.specs.declared.refusal.ListRefusal.TheVariants.{Bad, Memory}

-- the bytes begin with the postings of these items and of one more that may follow them
pub record GoesOn (below : ℕ) (bytes items : List ℕ) : Type 0 where
  pub item : ℕ
  pub rest : List ℕ
  pub postings : ArePostings below (items ++ item ∷ [])
  pub begins : bytes ≡ spelling (items ++ item ∷ []) ++ rest

-- the first byte of the first posting that doesn't fit, or, behind the last one, the first byte too many
pub record IsBadAt (count below : ℕ) (bytes : List ℕ) (place : ℕ) : Type 0 where
  pub before : List ℕ
  pub postings : ArePostings below before
  pub few : length before ≤ count
  pub within : place ≤ length bytes
  pub spelled : take place bytes ≡ spelling before
  pub unfit : length before < count → GoesOn below bytes before → ⊥
  pub too_many : length before ≡ count → place < length bytes

-- bytes are invalid at one place at most
abbrev pub OnePlace : Type 0
OnePlace =
    (count below : ℕ) (bytes : List ℕ) (p q : ℕ)
    → below ≤ 2 ^ 32 → IsBadAt count below bytes p → IsBadAt count below bytes q → p ≡ q

-- the list that the bytes spell, or the place where they don't, unless memory ran out
abbrev pub Reads : ℕ → ℕ → List ℕ → Result (List ℕ) ListRefusal → Type 0
Reads count below bytes (Ok items) = Spells count below bytes items
Reads count below bytes (Err Memory) = Unit {0}
Reads count below bytes (Err (Bad place)) = IsBadAt count below bytes place

-- these items, unless memory ran out
abbrev pub Gives : List ℕ → Result (List ℕ) ListRefusal → Type 0
Gives items (Ok list) = list ≡ items
Gives items (Err Memory) = Unit {0}
Gives items (Err (Bad place)) = ⊥

-- bytes begin with the number of an item that may follow others
pub record Follows (below : ℕ) (items bytes : List ℕ) (item : ℕ) (rest : List ℕ) : Type 0 where
  pub postings : ArePostings below (items ++ item ∷ [])
  pub begins : bytes ≡ number (item - last_of 0 items) ++ rest

-- an item whose number the bytes begin with, or none where there is none
abbrev pub FindsPosting : ℕ → List ℕ → List ℕ → Option (ℕ × Bor (List ℕ)) → Type 0
FindsPosting below items bytes (Some found) = Follows below items bytes found.0 found.1.now
FindsPosting below items bytes None = (item : ℕ) (rest : List ℕ) → Follows below items bytes item rest → ⊥

-- Lists that rise strictly, as sets.
use Rattle.std.specs.Prelude.{◌≡◌, ℕ, Bool, false, not, nat_lt, ◌==◌, List, [], ◌∷◌, Option, Some, None, if◌then◌else◌}
use Rattle.std.specs.List.{list_any}
use Rattle.std.specs.List.Sorted.{IsStrictlyIncreasing}

-- whether a number is an item of a list
abbrev pub has : List ℕ → ℕ → Bool
has items x = list_any (λ item. x == item) items

-- a list that rises strictly, of exactly the numbers that pass a test
pub record Collects (passes : ℕ → Bool) (items : List ℕ) : Type 0 where
  pub rising : IsStrictlyIncreasing items
  pub each : (x : ℕ) → has items x ≡ passes x

-- whether what is found, or isn't, is what is asked for
abbrev pub chosen : Bool → Bool → Bool
chosen there found = if there then found else not found

-- the lesser of two that may be missing
abbrev pub lesser : Option ℕ → Option ℕ → Option ℕ
lesser None b = b
lesser (Some x) None = Some x
lesser (Some x) (Some y) = if nat_lt y x then Some y else Some x

-- whether a list begins with an item
abbrev pub starts_with : ℕ → List ℕ → Bool
starts_with item [] = false
starts_with item (x ∷ xs) = item == x

-- whether a list begins with an item below another
abbrev pub starts_below : ℕ → List ℕ → Bool
starts_below least [] = false
starts_below least (x ∷ xs) = nat_lt x least

-- a list without an item that it begins with
abbrev pub without_first : ℕ → List ℕ → List ℕ
without_first item [] = []
without_first item (x ∷ xs) = if item == x then xs else x ∷ xs

-- Reading numbers from left to right.
use Rattle.std.specs.Prelude.{◌≡◌, ℕ, zero, suc, ◌+◌, ◌*◌, ◌%◌, nat_lt, ◌==◌, List, [], ◌∷◌, Option, Some, None}
use Rattle.std.specs.Prelude.{if◌then◌else◌}
use Rattle.std.specs.Borrow.{Bor}

-- a low byte of seven bits, and what the bytes behind it say; these aren't 0, so that each number has one form
abbrev pub joined : ℕ → Option (ℕ × List ℕ) → Option (ℕ × List ℕ)
joined low None = None
joined low (Some high) = if high.0 == 0 then None else Some (low % 128 + 128 * high.0, high.1)

-- the number of at most so many bytes that bytes begin with, in its shortest form, and the bytes behind it
unfoldable pub digits_at : ℕ → List ℕ → Option (ℕ × List ℕ)
digits_at zero bytes = None
digits_at (suc most) [] = None
digits_at (suc most) (low ∷ rest) = if nat_lt low 128 then Some (low, rest) else joined low (digits_at most rest)

-- the result is what is found in the bytes
abbrev pub Finds : Option (ℕ × Bor (List ℕ)) → Option (ℕ × List ℕ) → Type 0
Finds None found = found ≡ None
Finds (Some result) found = found ≡ Some (result.0, result.1.now)

-- an item that is told by its difference, and those that follow it
abbrev pub item_then : (ℕ → List ℕ → List ℕ) → ℕ → Option (ℕ × List ℕ) → List ℕ
item_then more last None = []
item_then more last (Some found) = (last + found.0) ∷ more (last + found.0) found.1

-- the items of the first so many postings, after another item
unfoldable pub items_of : ℕ → ℕ → List ℕ → List ℕ
items_of zero last bytes = []
items_of (suc count) last bytes = item_then (items_of count) last (digits_at 5 bytes)

-- the last item; if there is none, what is given for it
abbrev pub last_of : ℕ → List ℕ → ℕ
last_of last [] = last
last_of last (x ∷ xs) = last_of x xs

-- A list that is kept in tiles of one width.
use Rattle.std.specs.Prelude.{ℕ, ◌≡◌, ◌+◌, ◌<◌, ◌≤◌, List, [], ◌∷◌, length}

-- the tiles of a list that `left` more items are to follow: none is longer than the width, and each that something
-- follows has just the width
abbrev pub IsTiled : ℕ → ℕ → List (List ℕ) → Type 0
IsTiled width left [] = Unit {0}
IsTiled width left (tile ∷ tiles) =
    (length tile ≤ width) × (0 < length tiles + left → length tile ≡ width) × IsTiled width left tiles

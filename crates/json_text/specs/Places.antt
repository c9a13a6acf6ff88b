-- Where the names of members stand.
use Rattle.std.specs.Prelude.{ℕ, suc, ◌≡◌, List, [], ◌∷◌, Option, Some, None, if◌then◌else◌}
use Rattle.std.specs.Option.{option_map}
use Rattle.std.specs.BTreeMap.{BTreeMap, get}
use Rattle.std.specs.Cmp.Lexicographic.{slice_cmp}
use Rattle.std.specs.Ordering.{nat_cmp}
use Rattle.std.specs.Str.{bytes_eq}
use Rattle.json_text.specs.Grammar.{Member}

-- the place of the first member of this name
abbrev pub place_of : List Member → List ℕ → Option ℕ
place_of [] name = None
place_of (first ∷ others) name = if bytes_eq first.0 name then Some 0 else option_map suc (place_of others name)

-- the map has the place of each name
abbrev pub Places : BTreeMap (List ℕ) ℕ → List Member → Type 0
Places places members = (name : List ℕ) → get (slice_cmp nat_cmp) places name ≡ place_of members name

-- What a term list and a cursor keep.
use Rattle.std.specs.Prelude.{◌≡◌, ℕ, ◌+◌, ◌*◌, ◌/◌, ◌%◌, ◌^◌, ◌<◌, ◌≤◌, ◌==◌, List, [], ◌∷◌, ◌++◌, length, take}
use Rattle.std.specs.Prelude.{Option}
use Rattle.std.specs.Prelude.{slice_index_or, if◌then◌else◌}
use Rattle.std.specs.List.{slice_get}
use Rattle.std.specs.Option.{IfSome}
use Rattle.post_lists.specs.Numbers.{last_of}
use Rattle.post_lists.specs.Postings.{ArePostings, spelling}
use Rattle.post_lists.specs.declared.skip.Skip.{Skip}

-- the first `n` items end with `last`, and the number of the next one is at a place
pub record IsAt (items : List ℕ) (n place last : ℕ) : Type 0 where
  pub there : n ≤ length items
  pub begins : place ≡ length (spelling (take n items))
  pub ends : last ≡ last_of 0 (take n items)

-- the table has a skip for each 128th item
pub record HasSkips (items : List ℕ) (skips : List Skip) : Type 0 where
  pub complete : length skips ≡ length items / 128
  pub each : (k : ℕ) (d : Skip) → k < length skips
      → IsAt items (128 * (k + 1)) (slice_index_or skips k d).place (slice_index_or skips k d).item

-- the table with a skip more, if it has one after so many items
abbrev pub with_skip : List Skip → ℕ → Skip → List Skip
with_skip skips count skip = if count % 128 == 0 then skips ++ skip ∷ [] else skips

-- a skip from number `from` on whose item is below `least`
pub record IsBefore (skips : List Skip) (from least k : ℕ) : Type 0 where
  pub ahead : from ≤ k
  pub there : k < length skips
  pub below : (d : Skip) → (slice_index_or skips k d).item < least

-- the fields of a term list, and its items
pub record Keeps (items bytes : List ℕ) (skips : List Skip) (count last : ℕ) : Type 0 where
  pub postings : ArePostings (2 ^ 32) items
  pub spelled : bytes ≡ spelling items
  pub counted : count ≡ length items
  pub few : count < 2 ^ 32
  pub ended : last ≡ last_of 0 items
  pub skipped : HasSkips items skips

-- the fields of a cursor in a list
pub record IsReading (items : List ℕ) (passed : ℕ) (head : Option ℕ) (place : ℕ) : Type 0 where
  pub postings : ArePostings (2 ^ 32) items
  pub few : length items < 2 ^ 32
  pub there : passed ≤ length items
  pub next : head ≡ slice_get items passed
  pub behind : IfSome head (λ item. IsAt items (passed + 1) place item)

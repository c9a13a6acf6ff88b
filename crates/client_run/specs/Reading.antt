-- What a reader of lines holds, and what it finds.
use Rattle.std.specs.Prelude.{ℕ, ◌≡◌, ◌≢◌, ◌<◌, ◌≤◌, ◌+◌, Bool, true, false, List, [], ◌++◌, length, take, slice_index, Option, Some, None, Result, Ok, Err}
use Rattle.std.specs.Io.KnownBytes.{Consumes, Keeps, IsAtEnd}
use Rattle.disk_model.specs.declared.failed.Failed.{Failed}
use Rattle.client_run.specs.declared.find.Find.{Find}
use Rattle.client_run.specs.declared.find.Find.TheVariants as find
use Rattle.transcript.specs.Lines.{HasNoFeed, IsLong}
use Rattle.transcript.specs.declared.limits.TheConstants.{LONGEST_LINE}

-- how many bytes a reader has room for
abbrev pub most_held : ℕ
most_held = LONGEST_LINE + 65536

-- what was read and not taken, and whether the source came to its end
pub record ReaderState : Type 0 where
  pub pending : List ℕ
  pub over : Bool

-- the first bytes have no line feed
abbrev pub HasNoFeedBefore : List ℕ → ℕ → Type 0
HasNoFeedBefore bytes count = (k : ℕ) → k < count → slice_index bytes k ≢ 0x0A

-- the number of bytes before the first line feed; none where there is no line feed
abbrev pub FindsFeed : List ℕ → Option ℕ → Type 0
FindsFeed bytes None = HasNoFeed bytes
FindsFeed bytes (Some count) = (count < length bytes) × HasNoFeed (take count bytes) × (slice_index bytes count ≡ 0x0A)

-- what the bytes begin with
abbrev pub Finds : ReaderState → Find → Type 0
Finds held (find.Line count) = FindsFeed held.pending (Some count) × (count ≤ LONGEST_LINE)
Finds held (find.Last count) =
    HasNoFeed held.pending × (count ≡ length held.pending) × (0 < count) × (count ≤ LONGEST_LINE) × (held.over ≡ true)
Finds held find.End = (held.pending ≡ []) × (held.over ≡ true)
Finds held find.Long = IsLong held.pending
Finds held find.More = HasNoFeed held.pending × (length held.pending ≤ LONGEST_LINE) × (held.over ≡ false)

-- bytes came behind those that were pending; over is exactly where none came, at the source's end
abbrev pub Fills : Result (Unit {0}) Failed → ReaderState → ReaderState → Option (List ℕ) → Option (List ℕ) → Type 0
Fills (Ok done) old new left left' =
    (got : List ℕ) × Consumes left left' got × (new.pending ≡ old.pending ++ got) ×
    (new.over ≡ true → IsAtEnd left') × (new.over ≡ false → 0 < length got)
Fills (Err failed) old new left left' = Keeps left left' × (new ≡ old)

-- behind the first bytes are so many more that were read, none only at the source's end
abbrev pub ReadsBehind : List ℕ → List ℕ → ℕ → Option (List ℕ) → Option (List ℕ) → Type 0
ReadsBehind first new count left left' =
    (got : List ℕ) × Consumes left left' got × (take (length first + count) new ≡ first ++ got) ×
    (length got ≡ count) × (count ≡ 0 → IsAtEnd left')

-- bytes came behind those that were pending, and a reader that is over is at the source's end
pub record Gathers (old new : ReaderState) (left left' : Option (List ℕ)) : Type 0 where
  pub got : List ℕ
  pub came : Consumes left left' got
  pub pending : new.pending ≡ old.pending ++ got
  pub at_end : (old.over ≡ true → IsAtEnd left) → new.over ≡ true → IsAtEnd left'

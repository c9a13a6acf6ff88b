-- The lines of a session's input.
use Rattle.std.specs.Prelude.{ℕ, ◌≡◌, ◌≢◌, ◌<◌, ◌≤◌, ◌+◌, ◌-◌, ◌^◌, ◌⊎◌, ◌==◌, List, [], ◌∷◌, ◌++◌, length, take, slice_get, slice_index, All, Some, if◌then◌else◌}
use Rattle.std.specs.List.{flat_map}
use Rattle.transcript.specs.declared.limits.TheConstants.{LONGEST_LINE, MAX_LINES}

-- a line of the input: its bytes before a line feed, or the last one, without a line feed
pub data Line : Type 0 where
  ended : List ℕ → Line
  last : List ℕ → Line

abbrev pub bytes_of : Line → List ℕ
bytes_of (ended bytes) = bytes
bytes_of (last bytes) = bytes

-- its bytes and its line feed
abbrev pub with_feed : Line → List ℕ
with_feed (ended bytes) = bytes ++ 0x0A ∷ []
with_feed (last bytes) = bytes

-- without one carriage return at the end
abbrev pub without_return : List ℕ → List ℕ
without_return bytes = if slice_index bytes (length bytes - 1) == 0x0D then take (length bytes - 1) bytes else bytes

-- the content of a line: one carriage return before its line feed doesn't count
abbrev pub content : Line → List ℕ
content (ended bytes) = without_return bytes
content (last bytes) = bytes

abbrev pub HasNoFeed : List ℕ → Type 0
HasNoFeed bytes = All (λ b. b ≢ 0x0A) bytes

-- no line feed, and not too long
abbrev pub IsLine : Line → Type 0
IsLine line = HasNoFeed (bytes_of line) × (length (bytes_of line) ≤ LONGEST_LINE)

-- the input begins with the lines, and goes on behind them; only the last line of all may lack its line feed, and isn't
-- empty then
pub record BeginsWithLines (input : List ℕ) (lines : List Line) (behind : List ℕ) : Type 0 where
  pub spelled : input ≡ flat_map with_feed lines ++ behind
  pub each : All IsLine lines
  pub few : length lines ≤ MAX_LINES
  pub only_last : (k : ℕ) (bytes : List ℕ) → slice_get lines k ≡ Some (last bytes) → (k + 1 ≡ length lines)
      × (behind ≡ []) × (0 < length bytes)

-- the input goes on with a line that is too long
pub record IsLong (behind : List ℕ) : Type 0 where
  pub beginning : List ℕ
  pub rest : List ℕ
  pub spelled : behind ≡ beginning ++ rest
  pub one_line : HasNoFeed beginning
  pub too_long : LONGEST_LINE < length beginning

-- the next line is past the limits: too long, or one too many
abbrev pub IsPastLimits : List Line → List ℕ → Type 0
IsPastLimits lines behind = IsLong behind ⊎ ((length lines ≡ MAX_LINES) × (0 < length behind))

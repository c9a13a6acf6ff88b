-- What the bytes from a gate on say.
use Rattle.std.proofs.Common.{◌≡◌, ◌≤◌, ◌<◌, ◌^◌, ◌+◌, ◌∙◌, refl, sym, ap, ℕ, List, ◌∷◌, ◌++◌, length, take, drop, append_assoc, length-append, length-drop, arith}
use Rattle.std.specs.Int.{w64, to_be_bytes, from_be_bytes}
use Rattle.std.proofs.lemmas.List.{take_at, take-append-drop, drop-drop, length-take}
use Rattle.std.proofs.lemmas.Nat.{from_be_bytes-to_be_bytes_8}
use Rattle.frame_log.specs.Frames.{sized, BeginsWhole}
use Rattle.frame_log.specs.Scanned.{HasSize, BreaksAt, BeginsWith}
use Rattle.frame_log.specs.declared.frame.TheConstants.{OPEN}
use Rattle.frame_log.proofs.Bytes.{length-sized}

-- bytes behind a place, counted from there
pub further : (bytes : List ℕ) (place k n : ℕ) → take n (drop (place + k) bytes) ≡ take n (drop k (drop place bytes))
further bytes place k n = ap (λ (l : List ℕ). take n l) (sym (drop-drop k place bytes))

-- the length of a frame that is whole there
size_of : (behind body rest : List ℕ) → behind ≡ sized body ++ rest → length body < 2 ^ 64 → from_be_bytes w64
    (take 8 behind) ≡ length body
size_of behind body rest is fits =
    let n = length body in
    let split : take 8 behind ≡ to_be_bytes w64 n =
    ap (λ (l : List ℕ). take 8 l) (is ∙ append_assoc (to_be_bytes w64 n) body rest) ∙ take_at (to_be_bytes w64 n)
    (body ++ rest) 8 refl in
    ap (from_be_bytes w64) split ∙ from_be_bytes-to_be_bytes_8 n fits

-- behind an open gate
module _ (rest : List ℕ) (opens : rest ≡ OPEN ∷ drop 1 rest) where
  -- a whole frame takes its room
  room_of : (whole : BeginsWhole (drop 1 rest)) → 10 + length whole.body ≤ length rest
  room_of whole = omega (
    arith,
    ap length whole.whole,
    length-append (sized whole.body) (whole.gate ∷ whole.behind),
    length-sized whole.body,
    length-drop 1 rest,
  )

  -- there is no room for a length and a next gate
  pub breaks_short : length rest < 10 → BreaksAt rest
  breaks_short few = record {
    behind = drop 1 rest;
    whole = opens;
    broken = λ (whole : BeginsWhole (drop 1 rest)). absurd (omega (arith, few, room_of whole));
  }

  -- the body and a next gate don't fit
  pub breaks_long : (size : List ℕ) (n : ℕ) → size ≡ take 8 (drop 1 rest) → n ≡ from_be_bytes w64 size
      → length rest ≤ 2 ^ 62 → length rest < 10 + n → BreaksAt rest
  breaks_long size n said is short long = record {
    behind = drop 1 rest;
    whole = opens;
    broken = λ (whole : BeginsWhole (drop 1 rest)).
        let room = room_of whole in
        let same : n ≡ length whole.body =
        is ∙ ap (from_be_bytes w64) said
        ∙ size_of (drop 1 rest) whole.body (whole.gate ∷ whole.behind) whole.whole (omega (arith, room, short)) in
        absurd (omega (arith, room, same, long));
  }

-- a whole frame and its next gate
pub begins_with : (rest body : List ℕ) (n : ℕ) → HasSize rest n → 10 + n ≤ length rest → body ≡ take n (drop 9 rest)
    → BeginsWith body rest
begins_with rest body n said room there =
    let whole_body : length body ≡ n = omega (
      arith,
      ap length there,
      length-take n (drop 9 rest),
      length-drop 9
          rest,
      room,
    ) in
    let behind = drop n (drop 9 rest) in
    let on : drop 9 rest ≡ body ++ behind = sym (take-append-drop n (drop 9 rest)) ∙ ap (λ (l : List ℕ). l ++ behind)
    (sym there) in
    let framed : drop 1 rest ≡ sized body ++ behind =
    sym (take-append-drop 8 (drop 1 rest))
    ∙ ap (λ (l : List ℕ). l ++ drop 8 (drop 1 rest)) (said.spelled ∙ ap (to_be_bytes w64) (sym whole_body))
    ∙ ap (λ (l : List ℕ). to_be_bytes w64 (length body) ++ l) (drop-drop 8 1 rest ∙ on)
    ∙ sym (append_assoc (to_be_bytes w64 (length body)) body behind) in
    record {
      behind = behind;
      whole = said.opens ∙ ap (λ (l : List ℕ). OPEN ∷ l) framed;
      gated = omega (arith, length-drop n (drop 9 rest), length-drop 9 rest, room);
    }

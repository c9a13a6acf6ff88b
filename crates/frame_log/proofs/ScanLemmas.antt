-- How far a reader of frames has come, and what a scan makes of that.
use Rattle.std.proofs.Common.{◌≡◌, ◌≤◌, ◌<◌, ◌∙◌, refl, sym, ap, ℕ, List, [], ◌∷◌, ◌++◌, length, drop, Option, Some, None, IsSome, IfSome, Ok, arith}
use Rattle.std.proofs.lemmas.List.{drop_at}
use Rattle.disk_model.specs.Logs.{Image, CrashImages, Settled}
use Rattle.disk_model.specs.Stretches.{OnlyRead}
use Rattle.disk_model.specs.declared.disk.Disk
use Rattle.frame_log.specs.Frames.{framed, open_frame, HasFrames}
use Rattle.frame_log.specs.FramesRead.{log_file, log_length, next_gate, HasRead, MovesPast, ReadsOn}
use Rattle.frame_log.specs.Scanned.{BeginsWith}
use Rattle.frame_log.specs.declared.frame_reader.FrameReader.{FrameReader}
use Rattle.frame_log.proofs.Bytes.{framed-push, length-framed-push}
use Rattle.frame_log.proofs.ReadLemmas.{if_some_both}

-- the reader of a scan
pub record IsScanned {D : Type 0} (of_disk : Disk.Ghosts D) (first now : D) (file : ℕ) (reader : FrameReader)
    (bodies : List (List ℕ)) : Type 0 where
  pub read : OnlyRead of_disk first now
  pub later : of_disk.faults first ≤ of_disk.faults now
  pub same_file : log_file reader ≡ file
  pub at_end : next_gate reader ≡ length (framed bodies)
  pub told : IfSome (of_disk.seen first) (λ image. HasRead reader bodies (image file))

-- a closed gate is behind the frames that a scan read
pub scanned_whole : {D : Type 0} (of_disk : Disk.Ghosts D) (first now : D) (file : ℕ) (reader new : FrameReader)
    (bodies : List (List ℕ)) → IsScanned of_disk first now file reader bodies
    → IfSome (of_disk.seen now) (λ image. ReadsOn reader new (image (log_file reader)) (Ok None))
    → IfSome (of_disk.seen first) (λ image. HasFrames bodies (image file))
scanned_whole of_disk first now file reader new bodies far found =
    let ends : IfSome (of_disk.seen first) (λ image. ReadsOn reader new (image file) (Ok None)) =
    rw (← far.read.same, ← far.same_file) found in
    if_some_both (of_disk.seen first) far.told ends (λ image read on. on bodies read)

-- nothing was read of bytes of which there is one
pub read_first : (reader : FrameReader) (bytes : List ℕ) → next_gate reader ≡ 0 → log_length reader ≡ length bytes
    → 0 < log_length reader → HasRead reader [] bytes
read_first reader [] start all some = absurd (omega (arith, all, some))
read_first reader (byte ∷ bytes) start all some = record {
  gate = byte;
  behind = bytes;
  whole = refl;
  place = start;
  all = all;
}

-- bytes whose frames were read up to a gate
module _ (reader : FrameReader) (bodies : List (List ℕ)) (bytes : List ℕ) (read : HasRead reader bodies bytes) where
  rest : drop (next_gate reader) bytes ≡ read.gate ∷ read.behind
  rest = ap (λ (l : List ℕ). drop (next_gate reader) l) read.whole
      ∙ drop_at (framed bodies) (read.gate ∷ read.behind) (next_gate reader) (sym read.place)

  front : bytes ≡ framed bodies ++ drop (next_gate reader) bytes
  front = read.whole ∙ ap (λ (l : List ℕ). framed bodies ++ l) (sym rest)

  more : (new : FrameReader) (body behind : List ℕ) → drop (next_gate reader) bytes ≡ open_frame body ++ behind
      → 0 < length behind → MovesPast body reader new → HasRead new (bodies ++ body ∷ []) bytes
  more new body [] whole gated moves = absurd (omega (arith, gated))
  more new body (gate ∷ behind) whole gated moves = record {
    gate = gate;
    behind = behind;
    whole = front ∙ ap (λ (l : List ℕ). framed bodies ++ l) whole ∙ sym (framed-push bodies body (gate ∷ behind));
    place = omega (arith, moves.gate, read.place, length-framed-push bodies body);
    all = moves.same_length ∙ read.all;
  }

  pub read_more : (new : FrameReader) (body : List ℕ) → BeginsWith body (drop (next_gate reader) bytes)
      → MovesPast body reader new → HasRead new (bodies ++ body ∷ []) bytes
  read_more new body begins moves = more new body begins.behind begins.whole begins.gated moves

-- where each image has what is read, each has the frames
pub settled_frames : (seen : Option Image) (may_leave : CrashImages) (file : ℕ) (bodies : List (List ℕ)) → IsSome seen →
    IfSome seen (λ image. HasFrames bodies (image file))
    → Settled file seen may_leave → (c : Image) → may_leave c → HasFrames bodies (c file)
settled_frames None may_leave file bodies told has settled c left = absurd (cc)
settled_frames (Some image) may_leave file bodies told has settled c left = rw (settled c left) has

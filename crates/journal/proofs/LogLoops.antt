-- How far a log's bodies were read, what is read next, and why it isn't.
use Rattle.std.proofs.Common.{◌≡◌, ◌<◌, ◌≤◌, ◌^◌, ◌∙◌, sym, ap, subst, ℕ, List, [], ◌∷◌, ◌++◌, length, Option, Some, None, IfSome, Result, Ok, Err, MatchResult, Vec, arith}
use Rattle.std.specs.declared.alloc.Global.{Global}
use Rattle.disk_model.specs.Stretches.{OnlyRead}
use Rattle.disk_model.specs.declared.disk.Disk
use Rattle.frame_log.specs.Calls.{Blames}
use Rattle.frame_log.specs.Frames.{framed, HasFrames}
use Rattle.frame_log.specs.FramesRead.{FindsNext, HasRead, IsAtStart, IsBrokenBehind, KeepsLength, MovesPast, OpensRead, log_file, log_length, next_gate}
use Rattle.frame_log.specs.Scanned.{Opens}
use Rattle.frame_log.specs.declared.frame_reader.FrameReader.{FrameReader}
use Rattle.frame_log.specs.declared.log.Log.{Log}
use Rattle.frame_log.proofs.Bytes.{length-framed-push}
use Rattle.frame_log.proofs.ReadLemmas.{if_some, if_some_both, only_read_more}
use Rattle.directory_meaning.specs.Damages.{LogBreaks}
use Rattle.directory_reading.specs.Unread.{IsBadBody, IsUnread}
use Rattle.directory_reading.specs.declared.unread.LogBad.{LogBad}
use Rattle.directory_reading.specs.declared.unread.LogBad.TheVariants.{Fault}
use Rattle.journal.specs.LogReading.{IsRead, IsUnreadLog, ReadsOnAs}
use Rattle.journal.proofs.ReadBreaks.{InvalidBreaks, body_breaks, frame_breaks, in_log, no_fault, other_rule}

-- the reader has come behind some bodies, of which this was found
pub record IsReadSoFar {D : Type 0} (of_disk : Disk.Ghosts D) (first now : D) (file : ℕ) (reader : FrameReader)
    (Found : List (List ℕ) → Type 0) : Type 0 where
  pub bodies : List (List ℕ)
  pub found : Found bodies
  pub read : OnlyRead of_disk first now
  pub later : of_disk.faults first ≤ of_disk.faults now
  pub same_file : log_file reader ≡ file
  pub place : next_gate reader ≡ length (framed bodies)
  pub told : IfSome (of_disk.seen first) (λ image. HasRead reader bodies (image file))

-- the errors of two failures that are the same
same_error : {T E : Type 0} (a b : E) → ◌≡◌ {A = Result T E} (Err a) (Err b) → a ≡ b
same_error a b same = cc

-- a call that failed since a later time failed since an earlier one
pub blames_since : {T U E : Type 0} (fault why : E) (first before now : ℕ) → first ≤ before →
    Blames {T = T} fault before now (Err why) → Blames {T = U} fault first now (Err why)
blames_since fault why first before now earlier blames = record {
  later = omega (arith, earlier, blames.later);
  rose = λ same. omega (arith, earlier, blames.rose (ap (λ e. Err e) (same_error why fault same)));
}

-- where a body is invalid, the disk didn't fail
pub blames_body : {T : Type 0} (P : ℕ → ℕ → Type 0) (why : LogBad) (first now : ℕ) → first ≤ now → IsUnread P why →
    Blames {T = T} Fault first now (Err why)
blames_body P why first now later unread =
    record { later = later; rose = λ same. absurd (no_fault P why unread (same_error why Fault same)) }

-- and nor did it where the log was read
pub blames_none : {T : Type 0} (found : T) (first now : ℕ) → first ≤ now → Blames Fault first now (Ok found)
blames_none found first now later = record { later = later; rose = λ same. absurd (cc) }

module _ {D : Type 0} (of_disk : Disk.Ghosts D) (first now : D) (file : ℕ) (reader : FrameReader)
    (Found : List (List ℕ) → Type 0) (far : IsReadSoFar of_disk first now file reader Found) where
  -- the log is as long as when the reader began
  pub keeps_length : KeepsLength reader (of_disk.seen now)
  keeps_length = subst (λ f. IfSome (of_disk.seen now) (λ image. log_length reader ≡ length (image f)))
      (sym far.same_file) (rw far.read.same (if_some (of_disk.seen first) far.told (λ image read. read.all)))

  -- what is behind the bodies in the log as it was first seen
  found_behind : (new : FrameReader) (result : Result (Option (Vec ℕ Global)) LogBad) →
      IfSome (of_disk.seen now) (λ image. ReadsOnAs file reader new (image (log_file reader)) result) →
      IfSome (of_disk.seen first) (λ image. MatchResult result (FindsNext new far.bodies (image file))
      (IsUnreadLog (IsBrokenBehind far.bodies (image file)) file))
  found_behind new result found =
      let on = subst (λ f. IfSome (of_disk.seen first) (λ image. ReadsOnAs file reader new (image f) result))
      far.same_file (rw far.read.same at found) in
      if_some_both (of_disk.seen first) far.told on (λ image read then. then far.bodies read)

  -- nothing more: the log has these frames
  pub read_whole : (after : D) (new : FrameReader) (log : Log) → new ≡ reader →
      IfSome (of_disk.seen now) (λ image. ReadsOnAs file reader new (image (log_file reader)) (Ok None)) →
      OnlyRead of_disk now after → OpensRead of_disk new log → IsRead of_disk file first after log far.bodies
  read_whole after new log still found read opens =
      let has : IfSome (of_disk.seen first) (λ image. HasFrames far.bodies (image file)) =
      found_behind new (Ok None) found in
      let same = ap log_file still ∙ far.same_file in
      record {
        opens = subst (λ f. Opens of_disk f first after log far.bodies) same
            (opens far.bodies first after (ap next_gate still ∙ far.place)
            (subst (λ f. IfSome (of_disk.seen first) (λ image. HasFrames far.bodies (image f))) (sym same) has)
            (only_read_more of_disk first now after far.read read));
        frames = has;
      }

  -- one more body
  pub read_next : (Next : List (List ℕ) → Type 0) (after : D) (new : FrameReader) (body : Vec ℕ Global) →
      IfSome (of_disk.seen now) (λ image. ReadsOnAs file reader new (image (log_file reader)) (Ok (Some body))) →
      MovesPast body.items reader new → OnlyRead of_disk now after → of_disk.faults now ≤ of_disk.faults after →
      Next (far.bodies ++ body.items ∷ []) → IsReadSoFar of_disk first after file new Next
  read_next Next after new body found moves read later next = record {
    bodies = far.bodies ++ body.items ∷ [];
    found = next;
    read = only_read_more of_disk first now after far.read read;
    later = omega (arith, far.later, later);
    same_file = moves.same_file ∙ far.same_file;
    place = omega (arith, moves.gate, far.place, length-framed-push far.bodies body.items);
    told = found_behind new (Ok (Some body)) found;
  }

  module _ (Valid : List (List ℕ) → Type 0) (Breaks : List (List ℕ) → List ℕ → ℕ → Type 0) (valid : Valid far.bodies)
      (new : FrameReader) where
    -- no whole frame follows
    pub frame_unread : (why : LogBad) →
        IfSome (of_disk.seen now) (λ image. ReadsOnAs file reader new (image (log_file reader)) (Err why)) →
        IfSome (of_disk.seen first) (λ image. IsUnreadLog (LogBreaks Valid Breaks (image file)) file why)
    frame_unread why found = if_some (of_disk.seen first) (found_behind new (Err why) found) (λ image unread.
        other_rule file why unread (frame_breaks Valid Breaks far.bodies (image file) valid))

    -- an invalid body follows
    pub body_unread : InvalidBreaks Valid Breaks → (body : Vec ℕ Global) (gate : ℕ) (why : LogBad) →
        IfSome (of_disk.seen now) (λ image. ReadsOnAs file reader new (image (log_file reader)) (Ok (Some body))) →
        MovesPast body.items reader new → gate ≡ next_gate reader →
        IsUnread (IsBadBody Breaks file far.bodies gate body.items) why →
        IfSome (of_disk.seen first) (λ image. IsUnreadLog (LogBreaks Valid Breaks (image file)) file why)
    body_unread breaks body gate why found moves at_gate unread =
        let early : next_gate new < 2 ^ 62 = omega (arith, moves.inside, moves.short) in
        let placed = at_gate ∙ far.place in
        if_some (of_disk.seen first) (found_behind new (Ok (Some body)) found) (λ image read.
        in_log file why unread (λ other place bad. (
          bad.log,
          body_breaks Valid Breaks far.bodies (image file) valid
              breaks new body.items file gate other place read early placed bad,
        )))

-- nothing was read yet
pub read_none : {D : Type 0} (of_disk : Disk.Ghosts D) (first now : D) (file : ℕ) (reader : FrameReader)
    (Found : List (List ℕ) → Type 0) → Found [] → OnlyRead of_disk first now →
    of_disk.faults first ≤ of_disk.faults now → IsAtStart file reader →
    IfSome (of_disk.seen first) (λ image. HasRead reader [] (image file)) →
    IsReadSoFar of_disk first now file reader Found
read_none of_disk first now file reader Found found read later start told = record {
  bodies = [];
  found = found;
  read = read;
  later = later;
  same_file = start.0;
  place = start.1;
  told = told;
}

-- Why a log isn't read on: behind its valid bodies no whole frame follows, or an invalid body.
use Rattle.std.proofs.Common.{◌≡◌, inl, inr, refl, ◌∙◌, ℕ, ◌<◌, ◌≤◌, ◌^◌, List, [], ◌∷◌, ◌++◌, length, arith}
use Rattle.disk_model.specs.declared.file_name.FileName.TheVariants.{Log, Sealed}
use Rattle.frame_log.specs.Frames.{framed, sized}
use Rattle.frame_log.specs.FramesRead.{HasRead, IsBrokenBehind, next_gate}
use Rattle.frame_log.specs.declared.frame.TheConstants.{OPEN}
use Rattle.frame_log.specs.declared.frame_reader.FrameReader.{FrameReader}
use Rattle.frame_log.proofs.Bytes.{framed-push, length-framed-push}
use Rattle.directory_meaning.specs.Damages.{HasBody, LogBreaks}
use Rattle.directory_meaning.proofs.BreakLemmas.{earlier_place}
use Rattle.directory_reading.specs.Unread.{IsBadBody, IsUnread}
use Rattle.directory_reading.specs.declared.unread.LogBad.{LogBad}
use Rattle.directory_reading.specs.declared.unread.LogBad.TheVariants.{Damaged, Fault, Memory}
use Rattle.journal.specs.LogReading.{IsUnreadLog}

-- the place breaks another rule
pub other_rule : {P Q : ℕ → Type 0} (file : ℕ) (why : LogBad) → IsUnreadLog P file why →
    ((place : ℕ) → P place → Q place) → IsUnreadLog Q file why
other_rule file (Damaged (Log other) place) is then = (is.0, then place is.1)
other_rule file (Damaged (Sealed number) place) is then = is
other_rule file Fault is then = tt
other_rule file Memory is then = tt

-- a body that wasn't decoded is in its log
pub in_log : {P : ℕ → ℕ → Type 0} {Q : ℕ → Type 0} (file : ℕ) (why : LogBad) → IsUnread P why →
    ((other place : ℕ) → P other place → (other ≡ file) × Q place) → IsUnreadLog Q file why
in_log file (Damaged (Log other) place) is then = then other place is
in_log file (Damaged (Sealed number) place) is then = is
in_log file Fault is then = tt
in_log file Memory is then = tt

-- the disk didn't fail where a body wasn't decoded
pub no_fault : (P : ℕ → ℕ → Type 0) (why : LogBad) → IsUnread P why → why ≡ Fault → ⊥
no_fault P (Damaged (Log other) place) is same = cc
no_fault P (Damaged (Sealed number) place) is same = is
no_fault P Fault is same = is
no_fault P Memory is same = cc

-- where an invalid body is behind valid ones, the log breaks a rule
abbrev pub InvalidBreaks : (List (List ℕ) → Type 0) → (List (List ℕ) → List ℕ → ℕ → Type 0) → Type 0
InvalidBreaks Valid Breaks = (bodies : List (List ℕ)) (bytes behind body : List ℕ) (at place : ℕ) → Valid bodies →
    length (framed bodies) < 2 ^ 64 → bytes ≡ framed bodies ++ OPEN ∷ behind → HasBody body behind →
    Breaks bodies body at → at ≤ length body → place ≡ earlier_place bodies at → LogBreaks Valid Breaks bytes place

module _ (Valid : List (List ℕ) → Type 0) (Breaks : List (List ℕ) → List ℕ → ℕ → Type 0)
    (bodies : List (List ℕ)) (bytes : List ℕ) (valid : Valid bodies) where
  -- no whole frame follows
  pub frame_breaks : (place : ℕ) → IsBrokenBehind bodies bytes place → LogBreaks Valid Breaks bytes place
  frame_breaks place b = inr (inl (record {
    bodies = bodies;
    behind = b.behind;
    valid = valid;
    whole = b.whole;
    breaks = inl (b.broken, b.at_gate);
    early = b.early;
  }))

  -- the body of the frame that was read is invalid
  pub body_breaks : InvalidBreaks Valid Breaks → (reader : FrameReader) (body : List ℕ) (file gate other place : ℕ) →
      HasRead reader (bodies ++ body ∷ []) bytes → next_gate reader < 2 ^ 62 → gate ≡ length (framed bodies) →
      IsBadBody Breaks file bodies gate body other place → LogBreaks Valid Breaks bytes place
  body_breaks breaks reader body file gate other place read early at_gate bad =
      let long = length-framed-push bodies body in
      let has : HasBody body (sized body ++ read.gate ∷ read.behind) = record {
        gate = read.gate;
        behind = read.behind;
        whole = refl;
        fits = omega (arith, early, read.place, long);
      } in
      breaks bodies bytes (sized body ++ read.gate ∷ read.behind) body bad.at place valid
      (omega (arith, early, read.place, long))
      (read.whole ∙ framed-push bodies body (read.gate ∷ read.behind)) has bad.broken bad.within
      (omega (arith, bad.placed, at_gate))

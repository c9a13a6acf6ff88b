-- Where a reader that goes frame by frame finds a rule broken.
use Rattle.std.proofs.Common.{◌≡◌, ◌≢◌, ◌⊎◌, inl, inr, ⊎_elim, ℕ, ◌+◌, ◌^◌, ◌<◌, ◌≤◌, min, List, ◌∷◌, ◌++◌, length, refl, sym, ap, ◌∙◌, subst₂, arith, length-append}
use Rattle.std.specs.Int.{w64, to_be_bytes}
use Rattle.std.proofs.lemmas.Bool.{cases_lt}
use Rattle.frame_log.proofs.Bytes.{framed-append}
use Rattle.frame_log.specs.Frames.{BeginsWhole, framed, sized}
use Rattle.frame_log.specs.declared.frame.TheConstants.{OPEN}
use Rattle.directory_meaning.specs.Damages.{AreEntryBodies, AreRootBodies, BreaksAfter, BreaksBehind, HasBody, IsBadEntry, IsBadRoot, JournalBreaks, LogBreaks, RootLogBreaks}
use Rattle.directory_meaning.proofs.BodyLemmas.{entry_stops, one_bad_entry, one_bad_root, root_stops}
use Rattle.directory_meaning.proofs.FrameLemmas.{Part, readings_part}
use Rattle.directory_meaning.proofs.LogLemmas.{gate_first, is_short, none_behind, one_behind}

-- the place of an invalid body, or 2^62 if that is earlier
abbrev pub earlier_place : List (List ℕ) → ℕ → ℕ
earlier_place bodies at = min (length (framed bodies) + 9 + at) (2 ^ 62)

module _ (Valid : List (List ℕ) → Type 0) (Breaks : List (List ℕ) → List ℕ → ℕ → Type 0)
    (stops : (before : List (List ℕ)) (body : List ℕ) (more : List (List ℕ)) (at : ℕ) →
    Valid (before ++ body ∷ more) → Breaks before body at → ⊥) where
  -- no whole frame is behind the gate
  pub frame_breaks : (bodies : List (List ℕ)) (bytes behind : List ℕ) → Valid bodies →
      bytes ≡ framed bodies ++ OPEN ∷ behind → (BeginsWhole behind → ⊥) → length (framed bodies) < 2 ^ 62 →
      LogBreaks Valid Breaks bytes (length (framed bodies))
  frame_breaks bodies bytes behind valid whole broken early = inr (inl (record {
    bodies = bodies;
    behind = behind;
    valid = valid;
    whole = whole;
    breaks = inl (broken, refl);
    early = early;
  }))

  module _ (bodies : List (List ℕ)) (bytes behind : List ℕ) (valid : Valid bodies)
      (short : length (framed bodies) < 2 ^ 64) where
    -- valid frames reach 2^62 or end at a closed gate, and there are more bytes
    pub too_long : (gate : ℕ) → bytes ≡ framed bodies ++ gate ∷ behind →
        (gate ≢ OPEN) ⊎ (2 ^ 62 ≤ length (framed bodies)) → 2 ^ 62 < length bytes →
        LogBreaks Valid Breaks bytes (2 ^ 62)
    too_long gate whole ends long = inr (inr (refl, long, none))
      where
        late : (other : ℕ) (b : BreaksAfter Valid Breaks bytes other) →
            length (framed bodies) ≤ length (framed b.bodies) → gate ≡ OPEN → ⊥
        late other b further opens = ⊎_elim
            (λ closed. closed opens)
            (λ reaches. omega (
              arith,
              reaches,
              further,
              gate_first Valid Breaks stops b.bodies b.behind (length (framed b.bodies)) other b.breaks,
              b.early,
            ))
            ends

        none : (other : ℕ) → BreaksAfter Valid Breaks bytes other → ⊥
        none other b = go (readings_part bodies b.bodies gate OPEN behind b.behind short
            (is_short Valid Breaks stops bytes other b) (sym whole ∙ b.whole))
          where
            go : Part bodies b.bodies gate OPEN behind b.behind → ⊥
            go (inl same) = late other b (omega (arith, ap (λ l. length (framed l)) same.0)) same.1
            go (inr (inl on)) = late other b (omega (
              arith,
              ap (λ l. length (framed l)) on.1.longer,
              ap length (framed-append bodies (on.1.body ∷ on.1.more)),
              length-append (framed bodies) (framed (on.1.body ∷ on.1.more)),
            )) on.0
            go (inr (inr on)) = none_behind Valid Breaks stops b.bodies bodies b.behind (length (framed b.bodies)) other
                on.1 valid b.breaks

    -- the body behind the gate is invalid
    pub body_breaks : ((before : List (List ℕ)) (body : List ℕ) (at to : ℕ) → Breaks before body at →
        Breaks before body to → at ≡ to) → bytes ≡ framed bodies ++ OPEN ∷ behind →
        (body : List ℕ) (at place : ℕ) → HasBody body behind → Breaks bodies body at → at ≤ length body →
        place ≡ earlier_place bodies at → LogBreaks Valid Breaks bytes place
    body_breaks one whole body at place has broken within placed = ⊎_elim
        (λ early. inr (inl (record {
          bodies = bodies;
          behind = behind;
          valid = valid;
          whole = whole;
          breaks = inr (body, at, has, broken, omega (arith, placed, early));
          early = omega (arith, placed, early);
        })))
        (λ past. inr (inr (omega (arith, placed, past), long past, none past)))
        (cases_lt (length (framed bodies) + 9 + at) (2 ^ 62))
      where
        here : BreaksBehind (Breaks bodies) (length (framed bodies)) behind (length (framed bodies) + 9 + at)
        here = inr (body, at, has, broken, refl)

        long : 2 ^ 62 ≤ length (framed bodies) + 9 + at → 2 ^ 62 < length bytes
        long past = omega (
          arith,
          past,
          within,
          ap length whole,
          length-append (framed bodies) (OPEN ∷ behind),
          ap length has.whole,
          length-append (sized body) (has.gate ∷ has.behind),
          length-append (to_be_bytes w64 (length body)) body,
        )

        none : 2 ^ 62 ≤ length (framed bodies) + 9 + at → (other : ℕ) → BreaksAfter Valid Breaks bytes other → ⊥
        none past other b = go (readings_part bodies b.bodies OPEN OPEN behind b.behind short
            (is_short Valid Breaks stops bytes other b) (sym whole ∙ b.whole))
          where
            go : Part bodies b.bodies OPEN OPEN behind b.behind → ⊥
            go (inl same) =
                let there = subst₂ (λ bs x. BreaksBehind (Breaks bs) (length (framed bs)) x
                (length (framed bodies) + 9 + at)) same.0 same.2 here in
                omega (
                  arith,
                  past,
                  b.early,
                  one_behind Valid Breaks stops one b.bodies b.behind
                      (length (framed b.bodies)) (length (framed bodies) + 9 + at) other there b.breaks,
                )
            go (inr (inl on)) = none_behind Valid Breaks stops bodies b.bodies behind (length (framed bodies))
                (length (framed bodies) + 9 + at) on.1 b.valid here
            go (inr (inr on)) = none_behind Valid Breaks stops b.bodies bodies b.behind (length (framed b.bodies)) other
                on.1 valid b.breaks

-- an invalid body of a journal
pub entry_breaks : (bodies : List (List ℕ)) (bytes behind body : List ℕ) (at place : ℕ) → AreEntryBodies bodies →
    length (framed bodies) < 2 ^ 64 → bytes ≡ framed bodies ++ OPEN ∷ behind → HasBody body behind →
    IsBadEntry bodies body at → at ≤ length body → place ≡ earlier_place bodies at → JournalBreaks bytes place
entry_breaks bodies bytes behind body at place valid short whole has broken within placed =
    body_breaks AreEntryBodies IsBadEntry entry_stops bodies bytes behind valid short one_bad_entry whole body at place
    has broken within placed

-- and of a root log
pub root_breaks : (bodies : List (List ℕ)) (bytes behind body : List ℕ) (at place : ℕ) → AreRootBodies bodies →
    length (framed bodies) < 2 ^ 64 → bytes ≡ framed bodies ++ OPEN ∷ behind → HasBody body behind →
    IsBadRoot bodies body at → at ≤ length body → place ≡ earlier_place bodies at → RootLogBreaks bytes place
root_breaks bodies bytes behind body at place valid short whole has broken within placed =
    body_breaks AreRootBodies IsBadRoot root_stops bodies bytes behind valid short one_bad_root whole body at place
    has broken within placed

-- A log that breaks a rule breaks it at one place, and a valid one breaks none.
use Rattle.std.proofs.Common.{◌≡◌, inl, inr, ℕ, ◌^◌, ◌<◌, ◌≤◌, List, [], ◌∷◌, ◌++◌, length, sym, ap, ◌∙◌, subst, subst₂, arith, length-append}
use Rattle.frame_log.specs.Frames.{HasFrames, framed}
use Rattle.frame_log.specs.declared.frame.TheConstants.{OPEN}
use Rattle.directory_meaning.specs.Damages.{BreaksAfter, BreaksBehind, LogBreaks}
use Rattle.directory_meaning.proofs.FrameLemmas.{GoOn, Part, begins_whole, one_body, readings_part}

-- a valid log breaks no rule if a body of valid ones isn't invalid behind those before it
module _ (Valid : List (List ℕ) → Type 0) (Breaks : List (List ℕ) → List ℕ → ℕ → Type 0)
    (stops : (before : List (List ℕ)) (body : List ℕ) (more : List (List ℕ)) (at : ℕ) →
    Valid (before ++ body ∷ more) → Breaks before body at → ⊥) where
  -- a reading that goes on with valid bodies meets no invalid one
  pub none_behind : (before all : List (List ℕ)) (bytes : List ℕ) (gate place : ℕ) → GoOn before all bytes → Valid all →
      BreaksBehind (Breaks before) gate bytes place → ⊥
  none_behind before all bytes gate place on valid (inl bad) = bad.0 (begins_whole on.body bytes on.here)
  none_behind before all bytes gate place on valid (inr bad) =
      stops before on.body on.more bad.1 (subst Valid on.longer valid)
      (subst (λ b. Breaks before b bad.1) (one_body bad.0 on.body bytes bad.2 on.here) bad.3)

  pub gate_first : (before : List (List ℕ)) (bytes : List ℕ) (gate place : ℕ) →
      BreaksBehind (Breaks before) gate bytes place → gate ≤ place
  gate_first before bytes gate place (inl bad) = omega (arith, bad.1)
  gate_first before bytes gate place (inr bad) = omega (arith, bad.4)

  pub is_short : (bytes : List ℕ) (place : ℕ) (b : BreaksAfter Valid Breaks bytes place) →
      length (framed b.bodies) < 2 ^ 64
  is_short bytes place b =
      let gate = gate_first b.bodies b.behind (length (framed b.bodies)) place b.breaks in
      let early = b.early in omega (arith, gate, early)

  has_bytes : (bytes : List ℕ) (place : ℕ) → BreaksAfter Valid Breaks bytes place → bytes ≡ [] → ⊥
  has_bytes bytes place b none = omega (
    arith,
    ap length none,
    ap length b.whole,
    length-append (framed b.bodies) (OPEN ∷ b.behind),
  )

  pub valid_log : (bodies : List (List ℕ)) (bytes : List ℕ) (place : ℕ) → HasFrames bodies bytes → Valid bodies →
      LogBreaks Valid Breaks bytes place → ⊥
  valid_log bodies bytes place has valid (inl none) = omega (
    arith,
    ap length none.0,
    ap length has.whole,
    length-append (framed bodies) (has.gate ∷ has.behind),
  )
  valid_log bodies bytes place has valid (inr (inr long)) = omega (arith, long.1, has.short)
  valid_log bodies bytes place has valid (inr (inl b)) =
      go (readings_part bodies b.bodies has.gate OPEN has.behind b.behind short (is_short bytes place b)
      (sym has.whole ∙ b.whole))
    where
      short : length (framed bodies) < 2 ^ 64
      short = omega (
        arith,
        has.short,
        ap length has.whole,
        length-append (framed bodies) (has.gate ∷ has.behind),
      )

      go : Part bodies b.bodies has.gate OPEN has.behind b.behind → ⊥
      go (inl ends) = has.closed ends.1
      go (inr (inl on)) = has.closed on.0
      go (inr (inr on)) =
          none_behind b.bodies bodies b.behind (length (framed b.bodies)) place on.1 valid b.breaks

  -- and it breaks rules at one place if an invalid body is invalid at one
  module _ (one : (before : List (List ℕ)) (body : List ℕ) (at to : ℕ) → Breaks before body at →
      Breaks before body to → at ≡ to) where
    pub one_behind : (before : List (List ℕ)) (bytes : List ℕ) (gate at to : ℕ) →
        BreaksBehind (Breaks before) gate bytes at → BreaksBehind (Breaks before) gate bytes to → at ≡ to
    one_behind before bytes gate at to (inl a) (inl b) = a.1 ∙ sym b.1
    one_behind before bytes gate at to (inl a) (inr b) = absurd (a.0 (begins_whole b.0 bytes b.2))
    one_behind before bytes gate at to (inr a) (inl b) = absurd (b.0 (begins_whole a.0 bytes a.2))
    one_behind before bytes gate at to (inr a) (inr b) =
        let same : a.1 ≡ b.1 = one before b.0 a.1 b.1
        (subst (λ body. Breaks before body a.1) (one_body a.0 b.0 bytes a.2 b.2) a.3) b.3 in
        omega (arith, same, a.4, b.4)

    one_after : (bytes : List ℕ) (at to : ℕ) → BreaksAfter Valid Breaks bytes at → BreaksAfter Valid Breaks bytes to →
        at ≡ to
    one_after bytes at to a b = go (readings_part a.bodies b.bodies OPEN OPEN a.behind b.behind (is_short bytes at a)
        (is_short bytes to b) (sym a.whole ∙ b.whole))
      where
        go : Part a.bodies b.bodies OPEN OPEN a.behind b.behind → at ≡ to
        go (inl ends) = one_behind b.bodies b.behind (length (framed b.bodies)) at to
            (subst₂ (λ bodies behind. BreaksBehind (Breaks bodies) (length (framed bodies)) behind at) ends.0 ends.2
            a.breaks) b.breaks
        go (inr (inl on)) =
            absurd (none_behind a.bodies b.bodies a.behind (length (framed a.bodies)) at on.1 b.valid a.breaks)
        go (inr (inr on)) =
            absurd (none_behind b.bodies a.bodies b.behind (length (framed b.bodies)) to on.1 a.valid b.breaks)

    pub one_break : (bytes : List ℕ) (at to : ℕ) → LogBreaks Valid Breaks bytes at → LogBreaks Valid Breaks bytes to →
        at ≡ to
    one_break bytes at to (inl a) (inl b) = a.1 ∙ sym b.1
    one_break bytes at to (inl a) (inr (inl b)) = absurd (has_bytes bytes to b a.0)
    one_break bytes at to (inl a) (inr (inr b)) = absurd (omega (arith, ap length a.0, b.1))
    one_break bytes at to (inr (inl a)) (inl b) = absurd (has_bytes bytes at a b.0)
    one_break bytes at to (inr (inl a)) (inr (inl b)) = one_after bytes at to a b
    one_break bytes at to (inr (inl a)) (inr (inr b)) = absurd (b.2 at a)
    one_break bytes at to (inr (inr a)) (inl b) = absurd (omega (arith, ap length b.0, a.1))
    one_break bytes at to (inr (inr a)) (inr (inl b)) = absurd (a.2 to b)
    one_break bytes at to (inr (inr a)) (inr (inr b)) = a.0 ∙ sym b.0

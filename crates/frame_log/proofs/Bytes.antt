-- What writes, cuts and torn writes make of a log's bytes.
use Rattle.std.proofs.Common.{◌≡◌, ◌≢◌, ◌≤◌, ◌<◌, ◌^◌, ◌∙◌, ◌+◌, inl, inr, ⊎_elim, refl, sym, ap, subst, ℕ, List, [], ◌∷◌, ◌++◌, length, take, drop, append_assoc, length-append, arith}
use Rattle.std.specs.Int.{w64, to_be_bytes}
use Rattle.std.proofs.lemmas.Bool.{cases_eq}
use Rattle.std.proofs.lemmas.List.{take_at, drop_at, append-nil, length-take}
use Rattle.disk_model.proofs.LogsLemmas.{whole_torn}
use Rattle.disk_model.specs.Logs.{written_at, Writes, Torn, MayCut}
use Rattle.frame_log.specs.Frames.{open_frame, sized, framed, HasFrames, HasGate, MayHave}
use Rattle.frame_log.specs.declared.frame.TheConstants.{OPEN, CLOSED}

pub framed-append : (kept more : List (List ℕ)) → framed (kept ++ more) ≡ framed kept ++ framed more
framed-append [] more = refl
framed-append (body ∷ kept) more = ap (λ (l : List ℕ). open_frame body ++ l) (framed-append kept more) ∙ sym
    (append_assoc (open_frame body) (framed kept) (framed more))

pub framed-push : (kept : List (List ℕ)) (body rest : List ℕ) → framed (kept ++ body ∷ []) ++ rest ≡ framed kept ++
    (open_frame body ++ rest)
framed-push kept body rest =
    ap (λ (l : List ℕ). l ++ rest) (framed-append kept (body ∷ []))
    ∙ append_assoc (framed kept) (framed (body ∷ [])) rest
    ∙ ap (λ (l : List ℕ). framed kept ++ (l ++ rest)) (append-nil (open_frame body))

eight : (n : ℕ) → length (to_be_bytes w64 n) ≡ 8
eight n = refl

pub length-sized : (body : List ℕ) → length (sized body) ≡ 8 + length body
length-sized body = omega (arith, eight (length body), length-append (to_be_bytes w64 (length body)) body)

pub length-framed-push : (kept : List (List ℕ)) (body : List ℕ) → length (framed (kept ++ body ∷ [])) ≡ length
    (framed kept) + 9 + length body
length-framed-push kept body =
    let both : framed (kept ++ body ∷ []) ++ [] ≡ framed kept ++ (open_frame body ++ []) = framed-push kept body [] in
    omega (
      arith,
      ap length both,
      length-append (framed (kept ++ body ∷ [])) [],
      length-append (framed kept)
          (open_frame body ++ []),
      length-append (open_frame body) [],
      length-sized body,
    )

one_byte : (bytes : List ℕ) → length bytes ≡ 1 → (byte : ℕ) × (bytes ≡ byte ∷ [])
one_byte [] one = absurd (omega arith)
one_byte (byte ∷ []) one = (byte, refl)
one_byte (byte ∷ other ∷ bytes) one = absurd (omega arith)

-- three parts of a log at its gate
module _ (front : List ℕ) (gate : ℕ) (behind : List ℕ) (end : ℕ) (at_end : end ≡ length front) where
  bytes : List ℕ
  bytes = front ++ gate ∷ behind

  pub length_at : length (front ++ gate ∷ behind) ≡ end + 1 + length behind
  length_at = omega (arith, length-append front (gate ∷ behind))

  pub before : take end (front ++ gate ∷ behind) ≡ front
  before = take_at front (gate ∷ behind) end (sym at_end)

  pub with_gate : take (end + 1) (front ++ gate ∷ behind) ≡ front ++ gate ∷ []
  with_gate = ap (λ (l : List ℕ). take (end + 1) l) (sym (append_assoc front (gate ∷ []) behind)) ∙ take_at
      (front ++ gate ∷ []) behind (end + 1) (omega (arith, length-append front (gate ∷ [])))

  pub past_gate : drop (end + 1) (front ++ gate ∷ behind) ≡ behind
  past_gate = ap (λ (l : List ℕ). drop (end + 1) l) (sym (append_assoc front (gate ∷ []) behind)) ∙ drop_at
      (front ++ gate ∷ []) behind (end + 1) (omega (arith, length-append front (gate ∷ [])))

  -- the gate written over
  pub gate_written : (byte : ℕ) → written_at (front ++ gate ∷ behind) end (byte ∷ []) ≡ front ++ byte ∷ behind
  gate_written byte = ap (λ (l : List ℕ). l ++ (byte ∷ []) ++ drop (end + 1) (front ++ gate ∷ behind)) before
      ∙ ap (λ (l : List ℕ). front ++ (byte ∷ []) ++ l) past_gate ∙ append_assoc front (byte ∷ []) behind

  -- a write behind the gate leaves the gate
  pub behind_written : (more rest : List ℕ) → take (end + 1) (front ++ gate ∷ behind) ++ more ++ rest ≡ front ++ gate
      ∷ (more ++ rest)
  behind_written more rest = ap (λ (l : List ℕ). l ++ more ++ rest) with_gate ∙ append_assoc (front ++ gate ∷ [])
      more rest ∙ append_assoc front (gate ∷ []) (more ++ rest)

pub ends_within : (kept : List (List ℕ)) (bytes : List ℕ) (end : ℕ) → end ≡ length (framed kept) → HasFrames kept
    bytes → end < length bytes
ends_within kept bytes end at_end has = rw has.whole (omega (
  arith,
  length_at (framed kept) has.gate has.behind end
      at_end,
))

module _ (kept : List (List ℕ)) (end : ℕ) (at_end : end ≡ length (framed kept)) where
  -- behind the closed gate anything may be torn
  pub torn_behind : (n : ℕ) (old new : List ℕ) → end + 1 + n ≤ 2 ^ 62 → HasFrames kept old → Torn (end + 1) n old new
      → HasFrames kept new
  torn_behind n old new room has torn =
      let after = drop (end + 1 + n) old in
      let is : new ≡ take (end + 1) (framed kept ++ has.gate ∷ has.behind) ++ torn.bytes ++ after =
      torn.rest ∙ ap (λ (l : List ℕ). take (end + 1) l ++ torn.bytes ++ after) has.whole in
      record {
        gate = has.gate;
        behind = torn.bytes ++ after;
        whole = is ∙ behind_written (framed kept) has.gate has.behind end at_end torn.bytes after;
        closed = has.closed;
        short = omega (arith, torn.no_longer, has.short, room);
      }

  -- a whole frame behind the closed gate
  pub staged : (body old new : List ℕ) → end + 1 + length (sized body ++ CLOSED ∷ []) ≤ 2 ^ 62 → HasFrames kept old
      → Writes (end + 1) (sized body ++ CLOSED ∷ []) old new → HasGate kept (body ∷ []) new
  staged body old new room has is =
      let frame = sized body ++ CLOSED ∷ [] in
      let after = drop (end + 1 + length frame) old in
      let split : new ≡ framed kept ++ has.gate ∷ (frame ++ after) =
      is ∙ ap (λ (l : List ℕ). take (end + 1) l ++ frame ++ after) has.whole ∙ behind_written (framed kept) has.gate
      has.behind end at_end frame after in
      let same : framed kept ++ OPEN ∷ (frame ++ after) ≡ framed (kept ++ body ∷ []) ++ CLOSED ∷ after =
      ap (λ (l : List ℕ). framed kept ++ OPEN ∷ l) (append_assoc (sized body) (CLOSED ∷ []) after) ∙ sym
      (framed-push kept body (CLOSED ∷ after)) in
      let room_after = (whole_torn old frame (end + 1)).no_longer in
      record {
        gate = has.gate;
        behind = frame ++ after;
        whole = split;
        opens = record {
          gate = CLOSED;
          behind = after;
          whole = same;
          closed = omega arith;
          short = omega (
            arith,
            room,
            has.short,
            room_after,
            ap length is,
            ap length split,
            length-append
                (framed kept) (OPEN ∷ (frame ++ after)),
            length-append (framed kept) (has.gate ∷ (frame ++ after)),
          );
        };
      }

  pub gate_torn : (more : List (List ℕ)) (old new : List ℕ) → HasGate kept more old → Torn end 1 old new → HasGate
      kept more new
  gate_torn more old new has torn =
      let is : new ≡ framed kept ++ torn.bytes ++ has.behind =
      torn.rest
      ∙ ap (λ (l : List ℕ). take end l ++ torn.bytes ++ drop (end + 1) l) has.whole
      ∙ ap (λ (l : List ℕ). l ++ torn.bytes ++ drop (end + 1) (framed kept ++ has.gate ∷ has.behind))
      (before (framed kept) has.gate has.behind end at_end)
      ∙ ap (λ (l : List ℕ). framed kept ++ torn.bytes ++ l) (past_gate (framed kept) has.gate has.behind end at_end) in
      let long = length_at (framed kept) has.gate has.behind end at_end in
      let (byte, one) = one_byte torn.bytes (omega (
        arith,
        at_end,
        ap length is,
        ap length has.whole,
        long,
        torn.no_shorter,
        torn.no_longer,
        length-append (framed kept ++ torn.bytes) has.behind,
        length-append
            (framed kept) torn.bytes,
      )) in
      record {
        gate = byte;
        behind = has.behind;
        whole = is ∙ ap (λ (l : List ℕ). framed kept ++ l ++ has.behind) one ∙ append_assoc (framed kept) (byte ∷ [])
            has.behind;
        opens = has.opens;
      }

  pub gate_opened : (more : List (List ℕ)) (old new : List ℕ) → HasGate kept more old → Writes end (OPEN ∷ []) old
      new → HasFrames (kept ++ more) new
  gate_opened more old new has is =
      let split : new ≡ framed kept ++ OPEN ∷ has.behind = is ∙ ap (λ (l : List ℕ). written_at l end (OPEN ∷ []))
      has.whole ∙ gate_written (framed kept) has.gate has.behind end at_end OPEN in
      subst (HasFrames (kept ++ more)) (sym split) has.opens

  pub gate_closed : (more : List (List ℕ)) (old new : List ℕ) → HasGate kept more old → Writes end (CLOSED ∷ []) old
      new → HasFrames kept new
  gate_closed more old new has is =
      let split : new ≡ framed kept ++ CLOSED ∷ has.behind = is ∙ ap (λ (l : List ℕ). written_at l end (CLOSED ∷ []))
      has.whole ∙ gate_written (framed kept) has.gate has.behind end at_end CLOSED in
      record {
        gate = CLOSED;
        behind = has.behind;
        whole = split;
        closed = omega arith;
        short = omega (
          arith,
          ap length split,
          length-append (framed kept) (CLOSED ∷ has.behind),
          length-append
              (framed kept) (OPEN ∷ has.behind),
          has.opens.short,
        );
      }

  pub cut_kept : (old new : List ℕ) → HasFrames kept old → MayCut (end + 1) old new → HasFrames kept new
  cut_kept old new has may = ⊎_elim (λ (is : new ≡ take (end + 1) old). record {
    gate = has.gate;
    behind = [];
    whole = is ∙ ap (λ (l : List ℕ). take (end + 1) l) has.whole ∙ with_gate (framed kept) has.gate has.behind end
        at_end;
    closed = has.closed;
    short = omega (arith, ap length is, length-take (end + 1) old, has.short);
  }) (λ (same : new ≡ old). rw same has) may

-- open or closed, a gate before a whole frame
pub may_have : (kept more : List (List ℕ)) (bytes : List ℕ) → HasGate kept more bytes → MayHave kept more bytes
may_have kept more bytes has = elim (cases_eq has.gate OPEN) [
  | inl is_open ↦ inr (subst (HasFrames (kept ++ more)) (sym (has.whole ∙ ap
      (λ (g : ℕ). framed kept ++ g ∷ has.behind) is_open)) has.opens)
  | inr shut ↦ inl (record {
    gate = has.gate;
    behind = has.behind;
    whole = has.whole;
    closed = shut;
    short = omega (
      arith,
      ap length has.whole,
      length-append (framed kept) (has.gate ∷ has.behind),
      length-append (framed kept)
          (OPEN ∷ has.behind),
      has.opens.short,
    );
  })
]

pub none_framed : (kept : List (List ℕ)) → length (framed kept) ≡ 0 → kept ≡ []
none_framed [] none = refl
none_framed (body ∷ kept) none = absurd (omega (arith, none, length-append (open_frame body) (framed kept)))

-- a log of frames, as one whose first gate may be closed
pub from_first : (kept : List (List ℕ)) (bytes : List ℕ) → HasFrames kept bytes → length (framed kept) ≢ 0 → HasGate
    [] kept bytes
from_first [] bytes has some = absurd (some refl)
from_first (body ∷ kept) bytes has some = record {
  gate = OPEN;
  behind = (sized body ++ framed kept) ++ has.gate ∷ has.behind;
  whole = has.whole;
  opens = rw has.whole at has;
}

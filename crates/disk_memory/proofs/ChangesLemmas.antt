-- One change more, and a change taken back.
use Rattle.std.proofs.Common.{List, [], ap, append_assoc, arith, drop, get_or, length, length-append, length-drop, min, refl, subst, suc, sym, take, zero, ℕ, ◌++◌, ◌+◌, ◌-◌, ◌<◌, ◌∙◌, ◌∷◌, ◌≡◌, ◌≤◌}
use Rattle.std.proofs.lemmas.List.{take-append-drop, drop-drop, length-take, length-take-le}
use Rattle.std.proofs.lemmas.Grind.{common_steps}
use Rattle.disk_model.proofs.LogsLemmas.{parts, front_part, back_part}
use Rattle.disk_model.specs.Logs.{written_at, Torn}
use Rattle.disk_memory.specs.declared.change.Change.{Change}
use Rattle.disk_memory.specs.declared.change.Change.TheVariants.{Wrote, Cut, MissedWrite, MissedCut}
use Rattle.disk_memory.specs.Changes.{redo, redone, undo, undone, MayMake, MayHold, MayBecome, IsWrite}

pub redone_last : (changes : List Change) (change : Change) (old : List ℕ) →
    redone (changes ++ change ∷ []) old ≡ redo change (redone changes old)
redone_last [] change old = refl
redone_last (c ∷ changes) change old = redone_last changes change (redo c old)

pub undone_last : (changes : List Change) (change : Change) (new : List ℕ) →
    undone (changes ++ change ∷ []) new ≡ undone changes (undo change new)
undone_last [] change new = refl
undone_last (c ∷ changes) change new = ap (undo c) (undone_last changes change new)

pub may_last : (changes : List Change) (change : Change) (old new : List ℕ) → MayHold (changes ++ change ∷ []) old new
    → (middle : List ℕ) × MayHold changes old middle × MayMake change middle new
may_last [] change old new (middle, made, is) = (old, refl, subst (λ (n : List ℕ). MayMake change old n) (sym is) made)
may_last (c ∷ changes) change old new (middle, made, rest) =
    let (last, before, after) = may_last changes change middle new rest in (last, (middle, made, before), after)

-- no change, or one more that may be that step
pub same_becomes : (step : List ℕ → List ℕ → Type 0) (changes more : List Change) (sure : List ℕ) → more ≡ changes →
    ((bytes : List ℕ) → step bytes bytes)
    → MayBecome step changes sure more sure
same_becomes step changes more sure is same new may =
    (new, subst (λ (cs : List Change). MayHold cs sure new) is may, same new)

pub more_becomes : (step : List ℕ → List ℕ → Type 0) (changes more : List Change) (change : Change) (sure : List ℕ) →
    more ≡ changes ++ change ∷ []
    → ((old new : List ℕ) → MayMake change old new → step old new) → MayBecome step changes sure more sure
more_becomes step changes more change sure is makes new may =
    let (old, before, made) = may_last changes change sure new (subst (λ (cs : List Change). MayHold cs sure new) is
    may) in (old, before, makes old new made)

pub write_taken_back : (old bytes : List ℕ) (place : ℕ) → place ≤ length old
    → take place (written_at old place bytes) ++ take (length bytes) (drop place old) ++ drop (place + length bytes)
    (written_at old place bytes) ≡ old
write_taken_back old bytes place le =
    let rest = drop (place + length bytes) old in
    let front = front_part (take place old) bytes rest place (length-take-le place old le) in
    let back = back_part (take place old) bytes rest (place + length bytes)
    (ap (λ (n : ℕ). n + length bytes) (length-take-le place old le)) in
    rw (front, back) (parts place (length bytes) old)

-- one change more, as what is read after it and what was read before it
pub redone_more : (changes more : List Change) (change : Change) (sure before after : List ℕ)
    → more ≡ changes ++ change ∷ []
    → before ≡ redone changes sure → after ≡ redo change before → after ≡ redone more sure
redone_more changes more change sure before after is was now =
    now ∙ (ap (redo change) was ∙ (sym (redone_last changes change sure) ∙ sym
    (ap (λ (cs : List Change). redone cs sure) is)))

pub undone_more : (changes more : List Change) (change : Change) (sure before after : List ℕ)
    → more ≡ changes ++ change ∷ []
    → undone changes before ≡ sure → undo change after ≡ before → undone more after ≡ sure
undone_more changes more change sure before after is was now =
    ap (λ (cs : List Change). undone cs after) is ∙ (undone_last changes change after ∙ (ap (undone changes) now ∙ was))

-- a write, as a change
pub redo_write : (place : ℕ) (bytes content : List ℕ) (change : Change) → IsWrite place bytes content change →
    redo change content ≡ written_at content place bytes
redo_write place bytes content (Wrote p copy over) (at, is, was) = rw (at, is) refl
redo_write place bytes content (Cut len lost) h = absurd h
redo_write place bytes content (MissedWrite p copy) h = absurd h
redo_write place bytes content (MissedCut len) h = absurd h

pub undo_write : (place : ℕ) (bytes content after : List ℕ) (change : Change) → IsWrite place bytes content change →
    place ≤ length content
    → after ≡ written_at content place bytes → undo change after ≡ content
undo_write place bytes content after (Wrote p copy over) (at, is, was) le now =
    rw (at, is, was, now) (write_taken_back content bytes place le)
undo_write place bytes content after (Cut len lost) h le now = absurd h
undo_write place bytes content after (MissedWrite p copy) h le now = absurd h
undo_write place bytes content after (MissedCut len) h le now = absurd h

pub makes_write : (place : ℕ) (bytes content : List ℕ) (change : Change) → IsWrite place bytes content change
    → (old new : List ℕ) → MayMake change old new → Torn place (length bytes) old new
makes_write place bytes content (Wrote p copy over) (at, is, was) old new made =
    subst (λ (n : ℕ). Torn n (length bytes) old new) at (subst (λ (b : List ℕ). Torn p (length b) old new) is made)
makes_write place bytes content (Cut len lost) h old new made = absurd h
makes_write place bytes content (MissedWrite p copy) h old new made = absurd h
makes_write place bytes content (MissedCut len) h old new made = absurd h

pub written_short : (old bytes : List ℕ) (place bound : ℕ) → place ≤ length old → length old ≤ bound →
    place + length bytes ≤ bound
    → length (written_at old place bytes) ≤ bound
written_short old bytes place bound le short end = grind (arith, common_steps)

-- the first bytes of a write
pub part_torn : (place n m : ℕ) (bytes old new : List ℕ) → m ≤ n → length bytes ≡ m →
    new ≡ take place old ++ bytes ++ drop (place + m) old → Torn place n old new
part_torn place n m bytes old new le len is = record {
  bytes = bytes ++ take (n - m) (drop (place + m) old);
  rest = is ∙ rest_of;
  no_shorter = omega (arith, ap length is, lengths);
  no_longer = omega (arith, ap length is, lengths);
}
  where
    rest_of : take place old ++ bytes ++ drop (place + m) old ≡ take place
        old ++ (bytes ++ take (n - m) (drop (place + m) old)) ++ drop (place + n) old
    rest_of = let sum : place + m + (n - m) ≡ place + n = omega arith in
        rw (
          ← sum,
          ← drop-drop (n - m) (place + m) old,
          append_assoc,
          append_assoc,
          append_assoc,
          take-append-drop (n - m) (drop (place + m) old),
        ) refl

    lengths : length (take place old ++ bytes ++ drop (place + m) old) ≡ min place (length old) + m +
        (length old - (place + m))
    lengths = simp (length-append, length-take, length-drop, len) refl

-- the change at a place is taken back
pub undone_step : (changes : List Change) (change : Change) (m : ℕ) (bytes : List ℕ) → m < length changes →
    change ≡ get_or changes m change
    → undone (take m changes) (undo change bytes) ≡ undone (take (suc m) changes) bytes
undone_step [] change m bytes lt is = absurd (omega arith)
undone_step (c ∷ changes) change zero bytes lt is = ap (λ (k : Change). undo k bytes) is
undone_step (c ∷ changes) change (suc m) bytes lt is = ap (undo c) (undone_step changes change m bytes (omega arith) is)

-- the change at a place may have happened
pub may_step : (changes : List Change) (change : Change) (m : ℕ) (old middle new : List ℕ) → m < length changes →
    change ≡ get_or changes m change
    → MayHold (take m changes) old middle → MayMake change middle new → MayHold (take (suc m) changes) old new
may_step [] change m old middle new lt is before made = absurd (omega arith)
may_step (c ∷ changes) change zero old middle new lt is before made =
    (new, subst (λ (k : Change). MayMake k old new) is (subst (λ (m : List ℕ). MayMake change m new) before made), refl)
may_step (c ∷ changes) change (suc m) old middle new lt is (x, first, rest) made =
    (x, first, may_step changes change m x middle new (omega arith) is rest made)

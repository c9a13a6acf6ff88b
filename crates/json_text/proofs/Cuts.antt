-- What a reading that failed says of the bytes before the fault and at it.
use Rattle.std.proofs.Common.{◌≡◌, ℕ, zero, suc, ◌<◌, ◌≤◌, ◌==◌, ◌⊎◌, inl, inr, Bool, true, false, ◌&&◌, not, cond, List, [], ◌∷◌, ◌++◌, length, map, Option, Some, None, Result, Ok, Err, refl, sym, ap, subst, ◌∙◌, append_assoc, arith}
use Rattle.std.proofs.lemmas.List.{append-nil}
use Rattle.std.proofs.lemmas.Str.{IsUtf8-append, IsUtf8-nil}
use Rattle.std.specs.Prelude.{nat_lt}
use Rattle.std.specs.List.{list_all}
use Rattle.std.specs.Str.{IsUtf8, IsValidUpTo}
use Rattle.std.specs.Str.Lossy.{utf8_valid_len}
use Rattle.json_text.specs.declared.fault.Fault.{Fault}
use Rattle.json_text.specs.declared.fault.Fault.TheVariants as fault
use Rattle.json_text.specs.Faults.{BracketHere}
use Rattle.json_text.specs.Reading.{◌>>=◌, Read, unexpected, or_fault, strip, byte_at, word_at, repeated, turn, with_front}
use Rattle.json_text.proofs.Fronts.{byte_ok, below_128, cons_utf8}
use Rattle.json_text.proofs.Spelled.{stops}
use Rattle.json_text.proofs.Machine.{Due, byte, refuses, may_end, react, accepts, missing, refused, byte_run}
use Rattle.json_text.proofs.Sequences.{some_character, two_parts}

-- how many bytes are left at a fault's place
abbrev pub left_of : Fault → ℕ
left_of (fault.Syntax n) = n
left_of (fault.Utf8 n) = n
left_of (fault.Depth n) = n
left_of (fault.Number n) = n

abbrev pub Cause : Fault → List ℕ → Type 0
Cause (fault.Syntax n) rest = IsValidUpTo rest 0 → ⊥
Cause (fault.Depth n) rest = BracketHere rest
Cause _ rest = Unit {0}

-- the same first byte, or no byte
abbrev pub Alike : List ℕ → List ℕ → Type 0
Alike [] others = others ≡ []
Alike (b ∷ bytes) others = (more : List ℕ) × (others ≡ b ∷ more)

pub alike_same : (bytes : List ℕ) → Alike bytes bytes
alike_same [] = refl
alike_same (b ∷ bytes) = (bytes, refl)

pub alike_behind : (front rest others : List ℕ) → Alike rest others → Alike (front ++ rest) (front ++ others)
alike_behind [] rest others a = a
alike_behind (b ∷ front) rest others a = (front ++ others, refl)

pub alike_in : (bytes front rest others : List ℕ) → bytes ≡ front ++ rest → Alike rest others →
    Alike bytes (front ++ others)
alike_in bytes front rest others e a = subst (λ (x : List ℕ). Alike x (front ++ others)) (sym e)
    (alike_behind front rest others a)

pub alike_stops : (p : ℕ → Bool) (rest others : List ℕ) → Alike rest others → stops p rest ≡ true →
    stops p others ≡ true
alike_stops p [] others a s = ap (λ (x : List ℕ). stops p x) a
alike_stops p (b ∷ rest) others (more, e) s = ap (λ (x : List ℕ). stops p x) e ∙ s

-- the bytes in front can't go on so, whatever stands behind the next one
abbrev pub Stuck : List Due → List ℕ → List ℕ → Type 0
Stuck stack front rest = (others : List ℕ) → Alike rest others → accepts (front ++ others) stack ≡ false

-- the room for which a fault that stands in this much is one too
abbrev pub Counts : Fault → ℕ → ℕ → Type 0
Counts (fault.Syntax n) room r = room ≤ r
Counts (fault.Depth n) room r = r ≡ room
Counts (fault.Utf8 n) room r = ⊥
Counts (fault.Number n) room r = ⊥

pub counts_none : (f : Fault) (room r : ℕ) → Counts f room r → Counts f 0 0
counts_none (fault.Syntax n) room r c = omega arith
counts_none (fault.Depth n) room r c = refl
counts_none (fault.Utf8 n) room r c = c
counts_none (fault.Number n) room r c = c

pub counts_le : (f : Fault) (room r : ℕ) → Counts f room r → room ≤ r
counts_le (fault.Syntax n) room r c = c
counts_le (fault.Depth n) room r c = omega arith
counts_le (fault.Utf8 n) room r c = absurd c
counts_le (fault.Number n) room r c = absurd c

-- what stands before the fault can be made whole, and goes on with no other byte than the one at it
pub record Cut (IsText : List ℕ → Type 0) (due : ℕ → List Due) (room : ℕ) (bytes : List ℕ) (f : Fault) : Type 0 where
  pub front : List ℕ
  pub rest : List ℕ
  pub others : List ℕ
  pub spelled : bytes ≡ front ++ rest
  pub left : left_of f ≡ length rest
  pub is : IsText (front ++ others)
  pub valid : IsUtf8 front
  pub cause : Cause f rest
  pub stuck : (r : ℕ) → Counts f room r → (stack : List Due) → Stuck (due r ++ stack) front rest

regroup : (before front others behind : List ℕ) →
    (before ++ front) ++ (others ++ behind) ≡ before ++ (front ++ others ++ behind)
regroup before front others behind = simp append_assoc

-- the whole of which a part fails
pub within : (IsPart IsText : List ℕ → Type 0) (due part_due : ℕ → List Due) (room part_room : ℕ)
    (before behind bytes inner : List ℕ) (f : Fault) →
    IsUtf8 before → bytes ≡ before ++ inner →
    ((text : List ℕ) → IsPart text → IsText (before ++ (text ++ behind))) →
    ((r : ℕ) → Counts f room r → (stack : List Due) →
    (q : ℕ) × (more : List Due) × Counts f part_room q × ((x : List ℕ) → Alike inner x →
    accepts (before ++ x) (due r ++ stack) ≡ accepts x (part_due q ++ more))) →
    Cut IsPart part_due part_room inner f → Cut IsText due room bytes f
within IsPart IsText due part_due room part_room before behind bytes inner f valid e whole leads c = record {
  front = before ++ c.front;
  rest = c.rest;
  others = c.others ++ behind;
  spelled = e ∙ ap (λ (x : List ℕ). before ++ x) c.spelled ∙ sym (append_assoc before c.front c.rest);
  left = c.left;
  is = subst IsText (sym (regroup before c.front c.others behind)) (whole (c.front ++ c.others) c.is);
  valid = IsUtf8-append before c.front valid c.valid;
  cause = c.cause;
  stuck = λ r k stack others a.
      let (q, more, counts, runs) = leads r k stack in
      ap (λ (x : List ℕ). accepts x (due r ++ stack)) (append_assoc before c.front others)
      ∙ runs (c.front ++ others) (alike_in inner c.front c.rest others c.spelled a)
      ∙ c.stuck q counts more others a;
}

-- what is less is told too
pub cut_as : (IsPart IsText : List ℕ → Type 0) (due : ℕ → List Due) (room : ℕ) (bytes : List ℕ) (f : Fault) →
    ((text : List ℕ) → IsPart text → IsText text) → Cut IsPart due room bytes f → Cut IsText due room bytes f
cut_as IsPart IsText due room bytes f to c =
    record {
      front = c.front;
      rest = c.rest;
      others = c.others;
      spelled = c.spelled;
      left = c.left;
      is = to (c.front ++ c.others) c.is;
      valid = c.valid;
      cause = c.cause;
      stuck = c.stuck;
    }

unexpected_by : (bytes : List ℕ) (t : Bool) → ((utf8_valid_len bytes == 0) && not (length bytes == 0)) ≡ t →
    (left_of (cond t (fault.Utf8 (length bytes)) (fault.Syntax (length bytes))) ≡ length bytes) × Cause
    (cond t (fault.Utf8 (length bytes)) (fault.Syntax (length bytes))) bytes
unexpected_by bytes true h = (refl, tt)
unexpected_by bytes false h = (refl, some_character bytes h)

-- it refuses the first byte, or the end
abbrev pub Bars : List Due → List ℕ → Type 0
Bars stack bytes = Stuck stack [] bytes

-- nothing fits here
pub here : (IsText : List ℕ → Type 0) (due : ℕ → List Due) (room : ℕ) (bytes others : List ℕ) (f : Fault) →
    unexpected bytes ≡ f → IsText others →
    ((r : ℕ) (stack : List Due) → Bars (due r ++ stack) bytes) → Cut IsText due room bytes f
here IsText due room bytes others f e is bars =
    let u = unexpected_by bytes ((utf8_valid_len bytes == 0) && not (length bytes == 0)) refl in
    record {
      front = [];
      rest = bytes;
      others = others;
      spelled = refl;
      left = subst (λ (g : Fault). left_of g ≡ length bytes) e u.0;
      is = is;
      valid = IsUtf8-nil;
      cause = subst (λ (g : Fault). Cause g bytes) e u.1;
      stuck = λ r k stack. bars r stack;
    }

-- before these bytes, of which a whole is made
pub behind_here : (IsText : List ℕ → Type 0) (due : ℕ → List Due) (room : ℕ) (before others bytes rest : List ℕ)
    (f : Fault) → IsUtf8 before →
    bytes ≡ before ++ rest → unexpected rest ≡ f → IsText (before ++ others) →
    ((r : ℕ) → room ≤ r → (stack : List Due) → Stuck (due r ++ stack) before rest) → Cut IsText due room bytes f
behind_here IsText due room before others bytes rest f valid spelled e is stuck =
    let u = unexpected_by rest ((utf8_valid_len rest == 0) && not (length rest == 0)) refl in
    record {
      front = before;
      rest = rest;
      others = others;
      spelled = spelled;
      left = subst (λ (g : Fault). left_of g ≡ length rest) e u.0;
      is = is;
      valid = valid;
      cause = subst (λ (g : Fault). Cause g rest) e u.1;
      stuck = λ r k stack. stuck r (counts_le f room r k) stack;
    }

-- it refuses what it doesn't take
pub bars_end : (x : Due) (stack : List Due) → may_end x ≡ false → Bars (x ∷ stack) []
bars_end x stack e others a = ap (λ (y : List ℕ). accepts y (x ∷ stack)) a ∙ missing x stack e

pub bars_byte : (x : Due) (b : ℕ) (bytes : List ℕ) (stack : List Due) → react x b ≡ refuses →
    Bars (x ∷ stack) (b ∷ bytes)
bars_byte x b bytes stack e others (more, a) = ap (λ (y : List ℕ). accepts y (x ∷ stack)) a ∙ refused x b more stack e

-- one of two steps failed
pub failed : {A B : Type 0} (r : Result A Fault) (g : A → Result B Fault) (f : Fault) → (r >>= g) ≡ Err f →
    (r ≡ Err f) ⊎ ((x : A) × (r ≡ Ok x) × (g x ≡ Err f))
failed {A = A} (Ok x) g f h = inr (x, refl, h)
failed {A = A} (Err e) g f h = let same : e ≡ f = cc in inl (ap (λ (y : Fault). Err y) same)

pub either_failed : {A B : Type 0} (r : Result A Fault) (g : A → Result B Fault) (f : Fault) (C : Type 0) →
    (r ≡ Err f → C) →
    ((x : A) → r ≡ Ok x → g x ≡ Err f → C) → (r >>= g) ≡ Err f → C
either_failed {A = A} {B = B} (Ok x) g f C first second h = second x refl h
either_failed {A = A} {B = B} (Err e) g f C first second h = let same : e ≡ f = cc in
    first (ap (λ (y : Fault). Err y) same)

pub ok_no_err : {A : Type 0} (x : A) (f : Fault) → ◌≡◌ {A = Result A Fault} (Ok x) (Err f) → ⊥
ok_no_err {A = A} x f h = absurd cc

pub err_same : {A : Type 0} (e f : Fault) → ◌≡◌ {A = Result A Fault} (Err e) (Err f) → e ≡ f
err_same {A = A} e f h = cc

pub or_fault_err : {X : Type 0} (e : Fault) (o : Option X) (f : Fault) → or_fault e o ≡ Err f → (e ≡ f) × (o ≡ None)
or_fault_err {X = X} e None f h = (cc, refl)
or_fault_err {X = X} e (Some x) f h = absurd cc

strip_none : (w b : ℕ) (bytes : List ℕ) (t : Bool) → (b == w) ≡ t → cond t (Some bytes) None ≡ None →
    react (byte w) b ≡ refuses
strip_none w b bytes true e h = absurd cc
strip_none w b bytes false e h = rw e refl

-- another byte stands here, or none
bars_strip : (w : ℕ) (bytes : List ℕ) (stack : List Due) → strip w bytes ≡ None → Bars (byte w ∷ stack) bytes
bars_strip w [] stack h = bars_end (byte w) stack refl
bars_strip w (b ∷ bytes) stack h = bars_byte (byte w) b bytes stack (strip_none w b bytes (b == w) refl h)

pub byte_err : (w : ℕ) (bytes : List ℕ) (f : Fault) → byte_at w bytes ≡ Err f →
    (unexpected bytes ≡ f) × ((stack : List Due) → Bars (byte w ∷ stack) bytes)
byte_err w bytes f h =
    let p = or_fault_err (unexpected bytes) (strip w bytes) f h in
    (p.0, λ stack. bars_strip w bytes stack p.1)

-- what is due of a word
abbrev pub spelling : List ℕ → ℕ → List Due
spelling word r = map byte word

pub word_err : (room : ℕ) (word bytes : List ℕ) (f : Fault) → list_all (λ b. nat_lt b 128) word ≡ true →
    word_at word bytes ≡ Err f →
    Cut (λ text. text ≡ word) (spelling word) room bytes f
unfolding word_at
word_err room [] bytes f small h = absurd cc
word_err room (w ∷ word) bytes f small h =
    let p = two_parts (nat_lt w 128) (list_all (λ b. nat_lt b 128) word) small in
    by (cons_utf8 w [] (below_128 w p.0) IsUtf8-nil) (failed (byte_at w bytes) (λ behind. word_at word behind) f h)
    (λ behind. word_err room word behind f p.1)
  where
    by : IsUtf8 (w ∷ []) → ((byte_at w bytes ≡ Err f) ⊎ ((x : List ℕ) × (byte_at w bytes ≡ Ok x) × (word_at word x ≡ Err
        f))) →
        ((behind : List ℕ) → word_at word behind ≡ Err f → Cut (λ text. text ≡ word) (spelling word) room behind f) →
        Cut (λ text. text ≡ w ∷ word) (spelling (w ∷ word)) room bytes f
    by valid (inl e) ih = let b = byte_err w bytes f e in
        here (λ text. text ≡ w ∷ word) (spelling (w ∷ word)) room bytes (w ∷ word) f b.0
        refl (λ r stack. b.1 (map byte word ++ stack))
    by valid (inr (behind, e, g)) ih =
        within (λ text. text ≡ word) (λ text. text ≡ w ∷ word) (spelling (w ∷ word)) (spelling word) room room (w ∷ [])
        [] bytes behind f valid (byte_ok w bytes behind e)
        (λ text is. ap (λ (x : List ℕ). w ∷ x) (append-nil text ∙ is))
        (λ r k stack. (r, stack, k, λ x a. byte_run w x (map byte word ++ stack))) (ih behind g)

-- turns of which one fails, or of which none is left
pub data FailedTurns {Y : Type 0} (step : List ℕ → Read (List Y × Bool)) (f : Fault) : List ℕ → Type 0 where
  fails : (bytes : List ℕ) → step bytes ≡ Err f → FailedTurns step f bytes
  spent : (bytes : List ℕ) → bytes ≡ [] → unexpected bytes ≡ f → FailedTurns step f bytes
  later : (bytes : List ℕ) (ys : List Y) (rest : List ℕ) → step bytes ≡ Ok ((ys, true), rest) →
      FailedTurns step f rest → FailedTurns step f bytes

front_err : {Y : Type 0} (ys : List Y) (r : Read (List Y)) (f : Fault) → with_front ys r ≡ Err f → r ≡ Err f
front_err {Y = Y} ys (Ok x) f h = absurd cc
front_err {Y = Y} ys (Err e) f h = h

turned : {Y : Type 0} (step : List ℕ → Read (List Y × Bool)) (n : ℕ) (f : Fault) (bytes : List ℕ) (ys : List Y)
    (again : Bool) (rest : List ℕ) →
    step bytes ≡ Ok ((ys, again), rest) →
    cond again (with_front ys (repeated step n rest)) (Ok (ys, rest)) ≡ Err f →
    (step bytes ≡ Ok ((ys, true), rest) → repeated step n rest ≡ Err f → FailedTurns step f rest) →
    FailedTurns step f bytes
turned {Y = Y} step n f bytes ys true rest e h ih =
    later bytes ys rest e (ih e (front_err ys (repeated step n rest) f h))
turned {Y = Y} step n f bytes ys false rest e h ih = absurd cc

no_bytes : (bytes : List ℕ) → length bytes ≤ 0 → bytes ≡ []
no_bytes [] le = refl
no_bytes (b ∷ bytes) le = absurd (omega arith)

pub turns_err : {Y : Type 0} (step : List ℕ → Read (List Y × Bool)) →
    ((bytes : List ℕ) (ys : List Y) (rest : List ℕ) → step bytes ≡ Ok ((ys, true), rest) → length rest < length bytes) →
    (n : ℕ) (f : Fault) (bytes : List ℕ) → length bytes ≤ n → repeated step n bytes ≡ Err f → FailedTurns step f bytes
unfolding repeated
turns_err {Y = Y} step shrinks zero f bytes le h =
    spent bytes (no_bytes bytes le) (err_same {A = List Y × List ℕ} (unexpected bytes) f h)
turns_err {Y = Y} step shrinks (suc n) f bytes le h = by (failed (step bytes) (λ x. turn (repeated step n) x) f h)
    (λ rest less. turns_err step shrinks n f rest less)
  where
    by : ((step bytes ≡ Err f) ⊎ ((x : (List Y × Bool) × List ℕ) × (step bytes ≡ Ok x) × (turn (repeated step n) x ≡ Err
        f))) →
        ((rest : List ℕ) → length rest ≤ n → repeated step n rest ≡ Err f → FailedTurns step f rest) →
        FailedTurns step f bytes
    by (inl e) ih = fails bytes e
    by (inr (x, e, g)) ih = turned step n f bytes x.0.0 x.0.1 x.1 e
        g (λ again. let lt = shrinks bytes x.0.0 x.1 again in ih x.1 (omega arith))

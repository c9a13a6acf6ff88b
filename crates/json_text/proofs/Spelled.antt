-- What bytes that are spelled so are read as.
use Rattle.std.proofs.Common.{◌≡◌, ℕ, zero, suc, ◌+◌, ◌<◌, ◌≤◌, ◌==◌, Bool, true, false, ◌&&◌, ◌||◌, not, cond, List, [], ◌∷◌, ◌++◌, length, take, drop, Some, Result, Ok, refl, sym, ap, subst, ◌∙◌, append_assoc, arith}
use Rattle.std.proofs.lemmas.Bool.{eq-eqb, not-true}
use Rattle.std.proofs.lemmas.List.{take_at, drop_at, get_or_at, length-append}
use Rattle.std.proofs.lemmas.Str.{IsUtf8-append, IsUtf8-take, IsUtf8-drop, IsUtf8-nil, IsCharBoundary-before_ascii, IsCharBoundary-from_take}
use Rattle.std.specs.List.{prefix_len, list_all}
use Rattle.std.specs.Str.{IsUtf8}
use Rattle.json_text.specs.declared.fault.Fault.{Fault}
use Rattle.json_text.specs.Grammar.{is_white, IsWhite}
use Rattle.json_text.specs.Numbers.{is_digit, is_exponent_letter}
use Rattle.json_text.specs.Reading.{◌>>=◌, Read, strip, byte_at, word_at, behind_white, turn, with_front, repeated}
use Rattle.json_text.proofs.Fronts.{cons_utf8}

-- the first byte, if there is one, fails the test
abbrev pub stops : (ℕ → Bool) → List ℕ → Bool
stops p [] = true
stops p (b ∷ bytes) = not (p b)

goes_by : (p : ℕ → Bool) (b : ℕ) (front rest : List ℕ) (t : Bool) → p b ≡ t → (t && list_all p front) ≡ true →
    (list_all p front ≡ true → prefix_len p (front ++ rest) ≡ length front) →
    cond t (1 + prefix_len p (front ++ rest)) 0 ≡ suc (length front)
goes_by p b front rest true e h ih = let i = ih h in omega arith
goes_by p b front rest false e h ih = absurd cc

pub front_len : (p : ℕ → Bool) (front rest : List ℕ) → list_all p front ≡ true → stops p rest ≡ true →
    prefix_len p (front ++ rest) ≡ length front
front_len p [] [] h s = refl
front_len p [] (b ∷ rest) h s = rw (not-true (p b) s) refl
front_len p (b ∷ front) rest h s = goes_by p b front rest (p b) refl h (λ k. front_len p front rest k s)

pub front_taken : (p : ℕ → Bool) (front rest : List ℕ) → list_all p front ≡ true → stops p rest ≡ true →
    take (prefix_len p (front ++ rest)) (front ++ rest) ≡ front
front_taken p front rest h s = take_at front rest (prefix_len p (front ++ rest)) (sym (front_len p front rest h s))

pub front_dropped : (p : ℕ → Bool) (front rest : List ℕ) → list_all p front ≡ true → stops p rest ≡ true →
    drop (prefix_len p (front ++ rest)) (front ++ rest) ≡ rest
front_dropped p front rest h s = drop_at front rest (prefix_len p (front ++ rest)) (sym (front_len p front rest h s))

pub white_skipped : (white rest : List ℕ) → IsWhite white → stops is_white rest ≡ true →
    behind_white (white ++ rest) ≡ rest
white_skipped white rest h s = front_dropped is_white white rest h s

pub strip_here : (w : ℕ) (rest : List ℕ) → strip w (w ∷ rest) ≡ Some rest
strip_here w rest = rw (eq-eqb w w refl) refl

pub byte_here : (w : ℕ) (rest : List ℕ) → byte_at w (w ∷ rest) ≡ Ok rest
byte_here w rest = rw (strip_here w rest) refl

pub word_here : (word rest : List ℕ) → word_at word (word ++ rest) ≡ Ok rest
unfolding word_at
word_here [] rest = refl
word_here (w ∷ word) rest = ap (λ (r : Result (List ℕ) Fault). r >>= λ behind. word_at word behind)
    (byte_here w (word ++ rest)) ∙ word_here word rest

-- ---- where UTF-8 may be cut

pub cut_front : (front : List ℕ) (b : ℕ) (rest : List ℕ) → b < 128 → IsUtf8 (front ++ b ∷ rest) → IsUtf8 front
cut_front front b rest lt h =
    let n = length front in
    let l = length-append front (b ∷ rest) in
    let at = get_or_at front b rest 0 n refl in
    subst IsUtf8 (take_at front (b ∷ rest) n refl)
    (IsUtf8-take (front ++ b ∷ rest) n h (IsCharBoundary-before_ascii (front ++ b ∷ rest) n (omega arith)
    (omega arith)))

pub cut_behind : (front rest : List ℕ) → IsUtf8 (front ++ rest) → IsUtf8 front → IsUtf8 rest
cut_behind front rest h f =
    let n = length front in
    let l = length-append front rest in
    let g = subst IsUtf8 (sym (take_at front rest n refl)) f in
    subst IsUtf8 (drop_at front rest n refl)
    (IsUtf8-drop (front ++ rest) n h (IsCharBoundary-from_take (front ++ rest) n h (omega arith) g))

pub cut_after : (front : List ℕ) (b : ℕ) (rest : List ℕ) → b < 128 → IsUtf8 (front ++ b ∷ rest) → IsUtf8 rest
cut_after front b rest lt h =
    cut_behind (front ++ b ∷ []) rest (subst IsUtf8 (sym (append_assoc front (b ∷ []) rest)) h)
    (IsUtf8-append front (b ∷ []) (cut_front front b rest lt h) (cons_utf8 b [] lt IsUtf8-nil))

-- ---- turns, each of which takes something

pub data Taken {Y : Type 0} (step : List ℕ → Read (List Y × Bool)) : List ℕ → List Y → List ℕ → Type 0 where
  last : (bytes : List ℕ) (ys : List Y) (rest : List ℕ) → step bytes ≡ Ok ((ys, false), rest) →
      length rest < length bytes → Taken step bytes ys rest
  more : (bytes : List ℕ) (ys : List Y) (rest : List ℕ) (zs : List Y) (end : List ℕ) →
      step bytes ≡ Ok ((ys, true), rest) → length rest < length bytes → Taken step rest zs end →
      Taken step bytes (ys ++ zs) end

one_turn : {Y : Type 0} (step : List ℕ → Read (List Y × Bool)) (n : ℕ) (bytes : List ℕ) (ys : List Y) (rest : List ℕ) →
    step bytes ≡ Ok ((ys, false), rest) → repeated step (suc n) bytes ≡ Ok (ys, rest)
unfolding repeated
one_turn {Y = Y} step n bytes ys rest e = ap (λ (r : Read (List Y × Bool)). r >>= λ x. turn (repeated step n) x) e

turns : {Y : Type 0} (step : List ℕ → Read (List Y × Bool)) (n : ℕ) (bytes : List ℕ) (ys : List Y) (rest : List ℕ)
    (zs : List Y) (end : List ℕ) →
    step bytes ≡ Ok ((ys, true), rest) → repeated step n rest ≡ Ok (zs, end) →
    repeated step (suc n) bytes ≡ Ok (ys ++ zs, end)
unfolding repeated
turns {Y = Y} step n bytes ys rest zs end e h = ap (λ (r : Read (List Y × Bool)). r >>= λ x. turn (repeated step n) x) e
    ∙ ap (λ (r : Read (List Y)). with_front ys r) h

pub taken_ok : {Y : Type 0} (step : List ℕ → Read (List Y × Bool)) (bytes : List ℕ) (ys : List Y) (end : List ℕ) →
    Taken step bytes ys end → (n : ℕ) →
    length bytes ≤ n → repeated step n bytes ≡ Ok (ys, end)
taken_ok {Y = Y} step bytes ys end (last _ _ _ e lt) zero le = absurd (omega arith)
taken_ok {Y = Y} step bytes ys end (last _ _ _ e lt) (suc n) le = one_turn step n bytes ys end e
taken_ok {Y = Y} step bytes ys end (more _ _ _ _ _ e lt t) zero le = absurd (omega arith)
taken_ok {Y = Y} step bytes whole end (more _ ys rest zs _ e lt t) (suc n) le =
    turns step n bytes ys rest zs end e (taken_ok step rest zs end t n (omega arith))

-- ---- what may stand behind a value

abbrev pub ends_value : List ℕ → Bool
ends_value [] = true
ends_value (b ∷ bytes) = is_white b || (b == 44) || (b == 93) || (b == 125)

pub no_digit : (rest : List ℕ) → ends_value rest ≡ true → stops is_digit rest ≡ true
no_digit [] h = refl
no_digit (b ∷ rest) h = by b h
  where
    by : (b : ℕ) → (is_white b || (b == 44) || (b == 93) || (b == 125)) ≡ true → not (is_digit b) ≡ true
    by b h = grind arith

pub no_point : (rest : List ℕ) → ends_value rest ≡ true → stops (λ b. b == 46) rest ≡ true
no_point [] h = refl
no_point (b ∷ rest) h = by b h
  where
    by : (b : ℕ) → (is_white b || (b == 44) || (b == 93) || (b == 125)) ≡ true → not (b == 46) ≡ true
    by b h = grind arith

pub no_letter : (rest : List ℕ) → ends_value rest ≡ true → stops is_exponent_letter rest ≡ true
no_letter [] h = refl
no_letter (b ∷ rest) h = by b h
  where
    by : (b : ℕ) → (is_white b || (b == 44) || (b == 93) || (b == 125)) ≡ true → not (is_exponent_letter b) ≡ true
    by b h = grind arith

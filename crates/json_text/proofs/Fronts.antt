-- What a reading that went well says of the bytes at the front.
use Rattle.std.proofs.Common.{◌≡◌, ℕ, zero, suc, ◌<◌, ◌≤◌, ◌==◌, Bool, true, false, ◌&&◌, cond, List, [], ◌∷◌, ◌++◌, length, take, Option, Some, None, Result, Ok, Err, refl, sym, ap, subst, ◌∙◌, arith}
use Rattle.std.proofs.lemmas.Bool.{eqb-true, ltb-true}
use Rattle.std.proofs.lemmas.List.{take-append-drop, take_all}
use Rattle.std.proofs.lemmas.Str.{IsUtf8-append, IsUtf8-from_ascii, IsUtf8-from_is_utf8, IsUtf8-nil}
use Rattle.std.specs.Prelude.{nat_lt, slice_index}
use Rattle.std.specs.List.{prefix_len, list_all}
use Rattle.std.specs.Str.{IsUtf8, is_utf8}
use Rattle.std.specs.Str.Lossy.{utf8_valid_len, valid_len_up_to}
use Rattle.json_text.specs.declared.fault.Fault.{Fault}
use Rattle.json_text.specs.Grammar.{is_white, IsWhite}
use Rattle.json_text.specs.Reading.{◌>>=◌, unexpected, strip, or_fault, byte_at, word_at, behind_white}
use Rattle.json_text.proofs.Prefix.{prefix_passes}

-- both of two steps went well
pub record Bound {A B : Type 0} (r : Result A Fault) (f : A → Result B Fault) (y : B) : Type 0 where
  pub value : A
  pub first : r ≡ Ok value
  pub second : f value ≡ Ok y

pub bound : {A B : Type 0} (r : Result A Fault) (f : A → Result B Fault) (y : B) → (r >>= f) ≡ Ok y → Bound r f y
bound (Ok x) f y h = record { value = x; first = refl; second = h }
bound (Err e) f y h = absurd cc

pub ok_same : {A : Type 0} (x y : A) → ◌≡◌ {A = Result A Fault} (Ok x) (Ok y) → x ≡ y
ok_same x y h = cc

pub ok_pair : {A B : Type 0} (a c : A) (b d : B) → ◌≡◌ {A = Result (A × B) Fault} (Ok (a, b)) (Ok (c, d)) →
    (a ≡ c) × (b ≡ d)
ok_pair {A = A} {B = B} a c b d h =
    let e : ◌≡◌ {A = A × B} (a, b) (c, d) = ok_same (a, b) (c, d) h in
    (ap (λ (x : A × B). x.0) e, ap (λ (x : A × B). x.1) e)

pub or_fault_ok : {X : Type 0} (f : Fault) (o : Option X) (x : X) → or_fault f o ≡ Ok x → o ≡ Some x
or_fault_ok f None x h = absurd cc
or_fault_ok f (Some y) x h = cc

stripped_by : (w b : ℕ) (bytes rest : List ℕ) (t : Bool) → (b == w) ≡ t → cond t (Some bytes) None ≡ Some rest →
    b ∷ bytes ≡ w ∷ rest
stripped_by w b bytes rest true e h = let x : bytes ≡ rest = cc in let y = eqb-true b w e in cc
stripped_by w b bytes rest false e h = absurd cc

pub stripped : (w : ℕ) (bytes rest : List ℕ) → strip w bytes ≡ Some rest → bytes ≡ w ∷ rest
stripped w [] rest h = absurd cc
stripped w (b ∷ bytes) rest h = stripped_by w b bytes rest (b == w) refl h

pub byte_ok : (w : ℕ) (bytes rest : List ℕ) → byte_at w bytes ≡ Ok rest → bytes ≡ w ∷ rest
byte_ok w bytes rest h = stripped w bytes rest (or_fault_ok (unexpected bytes) (strip w bytes) rest h)

pub word_ok : (word bytes rest : List ℕ) → word_at word bytes ≡ Ok rest → bytes ≡ word ++ rest
unfolding word_at
word_ok [] bytes rest h = cc
word_ok (w ∷ word) bytes rest h =
    let b = bound (byte_at w bytes) (λ behind. word_at word behind) rest h in
    byte_ok w bytes b.value b.first ∙ ap (λ (more : List ℕ). w ∷ more) (word_ok word b.value rest b.second)

-- white space, and what is behind it
pub record Whites (bytes : List ℕ) : Type 0 where
  pub white : List ℕ
  pub is_white : IsWhite white
  pub spelled : bytes ≡ white ++ behind_white bytes

pub whites : (bytes : List ℕ) → Whites bytes
whites bytes =
    let n = prefix_len is_white bytes in
    record {
      white = take n bytes;
      is_white = prefix_passes is_white bytes (take n bytes) n refl refl;
      spelled = sym
          (take-append-drop n bytes);
    }

-- UTF-8

small : (b : ℕ) → b < 128 → (i : ℕ) → slice_index (b ∷ []) i < 128
small b lt zero = lt
small b lt (suc i) = omega arith

pub cons_utf8 : (b : ℕ) (bytes : List ℕ) → b < 128 → IsUtf8 bytes → IsUtf8 (b ∷ bytes)
cons_utf8 b bytes lt h = IsUtf8-append (b ∷ []) bytes (IsUtf8-from_ascii (b ∷ []) (small b lt)) h

-- bytes below 128 are UTF-8
pub all_utf8 : (p : ℕ → Bool) (bytes : List ℕ) → ((b : ℕ) → p b ≡ true → b < 128) → list_all p bytes ≡ true →
    IsUtf8 bytes
all_utf8 p [] below h = IsUtf8-nil
all_utf8 p (b ∷ bytes) below h = all_by p b bytes (p b) refl below h (all_utf8 p bytes below)
  where
    all_by : (p : ℕ → Bool) (b : ℕ) (bytes : List ℕ) (t : Bool) → p b ≡ t → ((b : ℕ) → p b ≡ true → b < 128) →
        (t && list_all p bytes) ≡ true →
        (list_all p bytes ≡ true → IsUtf8 bytes) → IsUtf8 (b ∷ bytes)
    all_by p b bytes true e below h ih = cons_utf8 b bytes (below b e) (ih h)
    all_by p b bytes false e below h ih = absurd cc

white_small : (b : ℕ) → is_white b ≡ true → b < 128
white_small b h = grind arith

pub white_utf8 : (white : List ℕ) → IsWhite white → IsUtf8 white
white_utf8 white h = all_utf8 is_white white white_small h

pub below_128 : (b : ℕ) → nat_lt b 128 ≡ true → b < 128
below_128 b h = ltb-true b 128 h

pub word_utf8 : (word : List ℕ) → list_all (λ b. nat_lt b 128) word ≡ true → IsUtf8 word
word_utf8 word h = all_utf8 (λ b. nat_lt b 128) word below_128 h

valid_le : (bytes : List ℕ) (n : ℕ) → valid_len_up_to bytes n ≤ n
valid_le bytes zero = omega arith
valid_le bytes (suc n) = valid_by (is_utf8 (take (suc n) bytes)) (valid_le bytes n)
  where
    valid_by : (t : Bool) → valid_len_up_to bytes n ≤ n → cond t (suc n) (valid_len_up_to bytes n) ≤ suc n
    valid_by true le = omega arith
    valid_by false le = omega arith

valid_whole : (bytes : List ℕ) (n : ℕ) → length bytes ≡ n → valid_len_up_to bytes n ≡ n → IsUtf8 (take n bytes)
valid_whole bytes zero len h = IsUtf8-nil
valid_whole bytes (suc n) len h = valid_by (is_utf8 (take (suc n) bytes)) refl h
  where
    valid_by : (t : Bool) → is_utf8 (take (suc n) bytes) ≡ t → cond t (suc n) (valid_len_up_to bytes n) ≡ suc n →
        IsUtf8 (take (suc n) bytes)
    valid_by true e h = IsUtf8-from_is_utf8 (take (suc n) bytes) e
    valid_by false e h = let le = valid_le bytes n in absurd (omega arith)

-- bytes that are valid up to their end are UTF-8
pub valid_utf8 : (bytes : List ℕ) → utf8_valid_len bytes ≡ length bytes → IsUtf8 bytes
unfolding utf8_valid_len
valid_utf8 bytes h = subst IsUtf8 (take_all (length bytes) bytes (omega arith))
    (valid_whole bytes (length bytes) refl h)

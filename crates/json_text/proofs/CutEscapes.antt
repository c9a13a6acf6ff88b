-- What an escape that failed says of the bytes before the fault.
use Rattle.std.proofs.Common.{◌≡◌, ℕ, suc, ◌+◌, ◌*◌, ◌==◌, Bool, true, false, ◌&&◌, cond, List, [], ◌∷◌, length, Some, None, Ok, Err, refl, sym, ap, subst, ◌∙◌}
use Rattle.std.proofs.lemmas.Bool.{eqb-true}
use Rattle.std.proofs.lemmas.List.{append-nil}
use Rattle.std.proofs.lemmas.Str.{IsUtf8-nil}
use Rattle.std.specs.Prelude.{IsTrue}
use Rattle.std.specs.Str.{IsUtf8}
use Rattle.json_text.specs.declared.fault.Fault.{Fault}
use Rattle.json_text.specs.declared.fault.Fault.TheVariants as fault
use Rattle.json_text.specs.Strings.{is_hex, hex_value, short_escape, Char, short, unit, is_char, char_text}
use Rattle.json_text.specs.Reading.{◌>>=◌, Read, unexpected, or_fault, hex_of, hex_at, unit_at, char_at, escape_at}
use Rattle.json_text.proofs.Fronts.{cons_utf8, word_utf8}
use Rattle.json_text.proofs.FoundStrings.{hex_ok, hex_small}
use Rattle.json_text.proofs.Machine.{Due, chars as due_chars, escape as due_escape, hex as due_hex, refuses, react, taken}
use Rattle.json_text.proofs.AcceptsPlain.{hex_run}
use Rattle.json_text.proofs.Cuts.{left_of, Cause, Counts, counts_none, Bars, Cut, within, here, behind_here, bars_end, bars_byte, either_failed, ok_no_err, err_same, or_fault_err}

hex_none : (b : ℕ) (t : Bool) → is_hex b ≡ t → cond t (Some (hex_value b)) None ≡ None → is_hex b ≡ false
hex_none b true e h = absurd cc
hex_none b false e h = e

pub hex_err : (bytes : List ℕ) (f : Fault) → hex_at bytes ≡ Err f →
    (unexpected bytes ≡ f) × ((stack : List Due) → Bars (due_hex ∷ stack) bytes)
unfolding hex_at
hex_err [] f h = (err_same {A = ℕ × List ℕ} (unexpected []) f h, λ stack. bars_end due_hex stack refl)
hex_err (b ∷ bytes) f h =
    either_failed {B = ℕ × List ℕ} (or_fault (unexpected (b ∷ bytes)) (hex_of b)) (λ v. Ok (v, bytes))
    f ((unexpected (b ∷ bytes) ≡ f) × ((stack : List Due) → Bars (due_hex ∷ stack) (b ∷ bytes)))
    (λ e. let p = or_fault_err (unexpected (b ∷ bytes)) (hex_of b) f e in
    let no = hex_none b (is_hex b) refl p.1 in
    (p.0, λ stack. bars_byte due_hex b bytes stack (rw no refl)))
    (λ v e never. absurd (ok_no_err (v, bytes) f never)) h

-- what is due of four digits, and of the rest of a string
abbrev four_digits : ℕ → List Due
four_digits r = due_hex ∷ due_hex ∷ due_hex ∷ due_hex ∷ []

abbrev pub a_string : ℕ → List Due
a_string r = due_chars ∷ []

abbrev IsFour : List ℕ → Type 0
IsFour text = (a : ℕ) × (b : ℕ) × (c : ℕ) × (d : ℕ) × IsTrue (is_char (unit a b c d)) × (text ≡ a ∷ b ∷ c ∷ d ∷ [])

four : (a b c d : Bool) → a ≡ true → b ≡ true → c ≡ true → d ≡ true → (a && b && c && d) ≡ true
four a b c d e f g h = rw (e, f, g, h) refl

hex_utf8 : (b : ℕ) (bytes : List ℕ) → is_hex b ≡ true → IsUtf8 bytes → IsUtf8 (b ∷ bytes)
hex_utf8 b bytes h u = cons_utf8 b bytes (hex_small b h) u

unit_err : (bytes : List ℕ) (f : Fault) → unit_at bytes ≡ Err f → Cut IsFour four_digits 0 bytes f
unfolding unit_at
unit_err bytes f h =
    either_failed {B = ℕ × List ℕ} (hex_at bytes)
    (λ a. hex_at a.1 >>= λ b. hex_at b.1 >>= λ c. hex_at c.1 >>= λ d. Ok (
      ((a.0 * 16 + b.0) * 16 + c.0) * 16 + d.0,
      d.1,
    )) f (Cut IsFour four_digits 0 bytes f)
    (λ e. let h = hex_err bytes f e in here IsFour four_digits 0 bytes (48 ∷ 48 ∷ 48 ∷ 48 ∷ []) f
    h.0 (48, 48, 48, 48, refl, refl) (λ r stack. h.1 (due_hex ∷ due_hex ∷ due_hex ∷ stack)))
    (λ x p g. let i = hex_ok bytes x.0 x.1 p in either_failed {B = ℕ × List ℕ} (hex_at x.1)
    (λ b. hex_at b.1 >>= λ c. hex_at c.1 >>= λ d. Ok (((x.0 * 16 + b.0) * 16 + c.0) * 16 + d.0, d.1))
    f (Cut IsFour four_digits 0 bytes f)
    (λ e. behind_here IsFour four_digits 0 (i.digit ∷ []) (48 ∷ 48 ∷ 48 ∷ []) bytes x.1
    f (hex_utf8 i.digit [] i.is IsUtf8-nil) i.spelled (hex_err x.1 f e).0 (
      i.digit,
      48,
      48,
      48,
      four (is_hex i.digit) true true true i.is refl refl refl,
      refl,
    )
    (λ r le stack others a. hex_run i.digit others (due_hex ∷ due_hex ∷ due_hex ∷ stack) i.is
    ∙ (hex_err x.1 f e).1 (due_hex ∷ due_hex ∷ stack) others a))
    (λ y q k. let j = hex_ok x.1 y.0 y.1 q in either_failed {B = ℕ × List ℕ} (hex_at y.1)
    (λ c. hex_at c.1 >>= λ d. Ok (((x.0 * 16 + y.0) * 16 + c.0) * 16 + d.0, d.1))
    f (Cut IsFour four_digits 0 bytes f)
    (λ e. behind_here IsFour four_digits 0 (i.digit ∷ j.digit ∷ []) (48 ∷ 48 ∷ []) bytes y.1
    f (hex_utf8 i.digit (j.digit ∷ []) i.is (hex_utf8 j.digit [] j.is IsUtf8-nil))
    (i.spelled ∙ ap (λ (t : List ℕ). i.digit ∷ t) j.spelled)
    (hex_err y.1 f e).0 (
      i.digit,
      j.digit,
      48,
      48,
      four (is_hex i.digit) (is_hex j.digit) true true i.is j.is refl
          refl,
      refl,
    )
    (λ r le stack others a. hex_run i.digit (j.digit ∷ others) (due_hex ∷ due_hex ∷ due_hex ∷ stack) i.is
    ∙ hex_run j.digit others (due_hex ∷ due_hex ∷ stack) j.is ∙ (hex_err y.1 f e).1 (due_hex ∷ stack) others a))
    (λ z r l. let m = hex_ok y.1 z.0 z.1 r in either_failed {B = ℕ × List ℕ} (hex_at z.1)
    (λ d. Ok (((x.0 * 16 + y.0) * 16 + z.0) * 16 + d.0, d.1)) f (Cut IsFour four_digits 0 bytes f)
    (λ e. behind_here IsFour four_digits 0 (i.digit ∷ j.digit ∷ m.digit ∷ []) (48 ∷ []) bytes z.1 f
    (hex_utf8 i.digit (j.digit ∷ m.digit ∷ [])
    i.is (hex_utf8 j.digit (m.digit ∷ []) j.is (hex_utf8 m.digit [] m.is IsUtf8-nil)))
    (i.spelled ∙ ap (λ (t : List ℕ). i.digit ∷ t) (j.spelled ∙ ap (λ (t : List ℕ). j.digit ∷ t) m.spelled))
    (hex_err z.1 f e).0 (
      i.digit,
      j.digit,
      m.digit,
      48,
      four (is_hex i.digit) (is_hex j.digit) (is_hex m.digit) true i.is j.is m.is refl,
      refl,
    )
    (λ r le stack others a. hex_run i.digit (j.digit ∷ m.digit ∷ others) (due_hex ∷ due_hex ∷ due_hex ∷ stack) i.is
    ∙ hex_run j.digit (m.digit ∷ others) (due_hex ∷ due_hex ∷ stack) j.is ∙ hex_run m.digit others (due_hex ∷ stack)
    m.is ∙ (hex_err z.1 f e).1 stack others a))
    (λ w s never. absurd (ok_no_err (((x.0 * 16 + y.0) * 16 + z.0) * 16 + w.0, w.1) f never)) l) k) g) h

abbrev pub IsEscape : List ℕ → Type 0
IsEscape text = (char : Char) × IsTrue (is_char char) × (text ≡ char_text char)

new_line : IsEscape (92 ∷ 110 ∷ [])
new_line = (short 110, refl, refl)

-- the place of a surrogate without its partner is its backslash
lone_cut : (left : ℕ) (bytes : List ℕ) (f : Fault) → left ≡ length bytes → fault.Utf8 left ≡ f →
    Cut IsEscape a_string 0 bytes f
lone_cut left bytes f l e = record {
  front = [];
  rest = bytes;
  others = 92 ∷ 110 ∷ [];
  spelled = refl;
  left = ap (λ (g : Fault). left_of g) (sym e) ∙ l;
  is = new_line;
  valid = IsUtf8-nil;
  cause = let cause : Cause (fault.Utf8 left) bytes = tt in subst (λ (g : Fault). Cause g bytes) e cause;
  stuck = λ r k stack others a. absurd (subst (λ (g : Fault). Counts g 0 r) (sym e) k);
}

no_escape : (b : ℕ) → (b == 117) ≡ false → short_escape b ≡ None → react due_escape b ≡ refuses
no_escape b n e = rw (n, e) refl

escape_by : (left b : ℕ) (bytes : List ℕ) (f : Fault) (t : Bool) → left ≡ length (92 ∷ b ∷ bytes) → (b == 117) ≡ t →
    ◌≡◌ {A = Read ℕ} (cond t (unit_at bytes >>= λ u. or_fault (fault.Utf8 left) (char_at u.0 u.1))
    (or_fault (unexpected (b ∷ bytes)) (short_escape b) >>= λ c. Ok (c, bytes))) (Err f) →
    Cut IsEscape a_string 0 (92 ∷ b ∷ bytes) f
escape_by left b bytes f true l e h =
    let same : 92 ∷ b ∷ bytes ≡ 92 ∷ 117 ∷ bytes = ap (λ (x : ℕ). 92 ∷ x ∷ bytes) (eqb-true b 117 e) in
    either_failed {B = ℕ × List ℕ} (unit_at bytes) (λ u. or_fault (fault.Utf8 left) (char_at u.0 u.1))
    f (Cut IsEscape a_string 0 (92 ∷ b ∷ bytes) f)
    (λ g. within IsFour IsEscape a_string four_digits 0 0 (92 ∷ 117 ∷ []) [] (92 ∷ b ∷ bytes) bytes
    f (word_utf8 (92 ∷ 117 ∷ []) refl) same
    (λ text is. (unit is.0 is.1 is.2 is.3, is.4, ap (λ (x : List ℕ). 92 ∷ 117 ∷ x) (append-nil text ∙ is.5)))
    (λ r k stack. (
      0,
      due_chars ∷ stack,
      counts_none f 0 r k,
      λ x a. taken due_chars 92 (due_escape ∷ due_chars ∷ [])
          (117 ∷ x) stack refl ∙ taken due_escape 117 (due_hex ∷ due_hex ∷ due_hex ∷ due_hex ∷ []) x (due_chars ∷ stack)
          refl,
    )) (unit_err bytes f g))
    (λ u p g. lone_cut left (92 ∷ b ∷ bytes) f l (or_fault_err (fault.Utf8 left) (char_at u.0 u.1) f g).0) h
escape_by left b bytes f false l e h =
    either_failed {B = ℕ × List ℕ} (or_fault (unexpected (b ∷ bytes)) (short_escape b)) (λ c. Ok (c, bytes))
    f (Cut IsEscape a_string 0 (92 ∷ b ∷ bytes) f)
    (λ g. let p = or_fault_err (unexpected (b ∷ bytes)) (short_escape b) f g in
    behind_here IsEscape a_string 0 (92 ∷ []) (110 ∷ []) (92 ∷ b ∷ bytes) (b ∷ bytes) f (word_utf8 (92 ∷ []) refl) refl
    p.0 new_line
    (λ r le stack others a. taken due_chars 92 (due_escape ∷ due_chars ∷ []) others stack refl
    ∙ bars_byte due_escape b bytes (due_chars ∷ stack) (no_escape b e p.1) others a))
    (λ c p never. absurd (ok_no_err (c, bytes) f never)) h

pub escape_err : (left : ℕ) (bytes : List ℕ) (f : Fault) → left ≡ suc (length bytes) → escape_at left bytes ≡ Err f →
    Cut IsEscape a_string 0 (92 ∷ bytes) f
unfolding escape_at
escape_err left [] f l h = behind_here IsEscape a_string 0 (92 ∷ []) (110 ∷ [])
    (92 ∷ []) [] f (word_utf8 (92 ∷ []) refl) refl (err_same {A = ℕ × List ℕ} (unexpected []) f h) new_line
    (λ r le stack others a. taken due_chars 92 (due_escape ∷ due_chars ∷ []) others stack refl
    ∙ bars_end due_escape (due_chars ∷ stack) refl others a)
escape_err left (b ∷ bytes) f l h = escape_by left b bytes f (b == 117) l refl h

-- What escapes and runs of characters that are read are in the grammar.
use Rattle.std.proofs.Common.{◌≡◌, ℕ, ◌+◌, ◌*◌, ◌<◌, ◌==◌, Bool, true, false, ◌&&◌, cond, List, [], ◌∷◌, ◌++◌, drop, map, Option, Some, None, Ok, Err, refl, sym, ap, subst, ◌∙◌, append_assoc, arith}
use Rattle.std.proofs.lemmas.Bool.{eqb-true}
use Rattle.std.proofs.lemmas.Bool.Decides.{nat_tests}
use Rattle.std.proofs.lemmas.List.{append-nil}
use Rattle.std.proofs.lemmas.Str.{IsUtf8-nil, encode_ascii}
use Rattle.std.specs.Prelude.{IsTrue}
use Rattle.std.specs.List.{list_all, flat_map}
use Rattle.std.specs.Char.{encode_utf8}
use Rattle.std.specs.Str.{IsUtf8}
use Rattle.json_text.specs.declared.fault.Fault.TheVariants as fault
use Rattle.json_text.specs.Strings.{is_plain, is_hex, hex_value, short_escape, Char, plain, short, unit, is_char, char_text, unit_value, is_high, is_low, pair_value, after, text_of}
use Rattle.json_text.specs.Reading.{◌>>=◌, Read, unexpected, or_fault, word_at, hex_of, hex_at, unit_at, escape_head, low_of, low_at, pair_with, char_at, escape_at}
use Rattle.json_text.proofs.Fronts.{bound, ok_pair, or_fault_ok, cons_utf8, word_ok}

pub record Hex (bytes : List ℕ) (value : ℕ) (rest : List ℕ) : Type 0 where
  pub digit : ℕ
  pub is : is_hex digit ≡ true
  pub worth : hex_value digit ≡ value
  pub spelled : bytes ≡ digit ∷ rest

hex_by : (b : ℕ) (bytes : List ℕ) (value : ℕ) (rest : List ℕ) (t : Bool) → is_hex b ≡ t →
    cond t (Some (hex_value b)) None ≡ Some value →
    bytes ≡ rest → Hex (b ∷ bytes) value rest
hex_by b bytes value rest true e h r = record { digit = b; is = e; worth = cc; spelled = ap (λ (x : List ℕ). b ∷ x) r }
hex_by b bytes value rest false e h r = absurd cc

pub hex_ok : (bytes : List ℕ) (value : ℕ) (rest : List ℕ) → hex_at bytes ≡ Ok (value, rest) → Hex bytes value rest
unfolding hex_at
hex_ok [] value rest h = absurd cc
hex_ok (b ∷ bytes) value rest h =
    let p = bound (or_fault (unexpected (b ∷ bytes)) (hex_of b)) (λ v. Ok (v, bytes)) (value, rest) h in
    let (made, left) = ok_pair p.value value bytes rest p.second in
    hex_by b bytes value rest (is_hex b) refl (or_fault_ok (unexpected (b ∷ bytes)) (hex_of b) p.value p.first
    ∙ ap (λ (v : ℕ). Some v) made) left

pub record Unit4 (bytes : List ℕ) (u : ℕ) (rest : List ℕ) : Type 0 where
  pub a : ℕ
  pub b : ℕ
  pub c : ℕ
  pub d : ℕ
  pub are : IsTrue (is_char (unit a b c d))
  pub worth : unit_value a b c d ≡ u
  pub spelled : bytes ≡ a ∷ b ∷ c ∷ d ∷ rest

four : (a b c d : Bool) → a ≡ true → b ≡ true → c ≡ true → d ≡ true → (a && b && c && d) ≡ true
four a b c d e f g h = rw (e, f, g, h) refl

pub unit_ok : (bytes : List ℕ) (u : ℕ) (rest : List ℕ) → unit_at bytes ≡ Ok (u, rest) → Unit4 bytes u rest
unfolding unit_at
unit_ok bytes u rest h =
    let p = bound (hex_at bytes)
    (λ a. hex_at a.1 >>= λ b. hex_at b.1 >>= λ c. hex_at c.1 >>= λ d. Ok (
      ((a.0 * 16 + b.0) * 16 + c.0) * 16 + d.0,
      d.1,
    )) (u, rest) h in
    let x = p.value in
    let q = bound (hex_at x.1)
    (λ b. hex_at b.1 >>= λ c. hex_at c.1 >>= λ d. Ok (((x.0 * 16 + b.0) * 16 + c.0) * 16 + d.0, d.1))
    (u, rest) p.second in
    let y = q.value in
    let r = bound (hex_at y.1) (λ c. hex_at c.1 >>= λ d. Ok (((x.0 * 16 + y.0) * 16 + c.0) * 16 + d.0, d.1))
    (u, rest) q.second in
    let z = r.value in
    let s = bound (hex_at z.1) (λ d. Ok (((x.0 * 16 + y.0) * 16 + z.0) * 16 + d.0, d.1)) (u, rest) r.second in
    let w = s.value in
    let (made, left) = ok_pair (((x.0 * 16 + y.0) * 16 + z.0) * 16 + w.0) u w.1 rest s.second in
    let i = hex_ok bytes x.0 x.1 p.first in
    let j = hex_ok x.1 y.0 y.1 q.first in
    let k = hex_ok y.1 z.0 z.1 r.first in
    let l = hex_ok z.1 w.0 w.1 s.first in
    record {
      a = i.digit;
      b = j.digit;
      c = k.digit;
      d = l.digit;
      are = four (is_hex i.digit) (is_hex j.digit) (is_hex k.digit) (is_hex l.digit) i.is j.is k.is l.is;
      worth = rw (i.worth, j.worth, k.worth, l.worth) made;
      spelled = i.spelled ∙ ap (λ (t : List ℕ). i.digit ∷ t)
          (j.spelled ∙ ap (λ (t : List ℕ). j.digit ∷ t)
          (k.spelled ∙ ap (λ (t : List ℕ). k.digit ∷ t) (l.spelled ∙ ap (λ (t : List ℕ). l.digit ∷ t) left)));
    }

-- some characters, of which those behind them do not depend
pub record Chars (bytes text rest : List ℕ) : Type 0 where
  pub chars : List Char
  pub are : IsTrue (list_all is_char chars)
  pub means : (others : List Char) → text_of (chars ++ others) ≡ after text (text_of others)
  pub valid : IsUtf8 (flat_map char_text chars)
  pub spelled : bytes ≡ flat_map char_text chars ++ rest

pub unit_means : (a b c d : ℕ) (others : List Char) → is_high (unit_value a b c d) ≡ false →
    is_low (unit_value a b c d) ≡ false →
    text_of (unit a b c d ∷ others) ≡ after (encode_utf8 (unit_value a b c d)) (text_of others)
unit_means a b c d [] h l =
    rw (h, l) (ap (λ (x : List ℕ). Some x) (sym (append-nil (encode_utf8 (unit_value a b c d)))))
unit_means a b c d (plain x ∷ others) h l = rw (h, l) refl
unit_means a b c d (short x ∷ others) h l = rw (h, l) refl
unit_means a b c d (unit e f g i ∷ others) h l = rw (h, l) refl

pub pair_means : (a b c d e f g i : ℕ) (others : List Char) → is_high (unit_value a b c d) ≡ true →
    is_low (unit_value e f g i) ≡ true →
    text_of (unit a b c d ∷ unit e f g i ∷ others) ≡ after
    (encode_utf8 (pair_value (unit_value a b c d) (unit_value e f g i))) (text_of others)
pair_means a b c d e f g i others h l = rw (h, l) refl

pub hex_small : (b : ℕ) → is_hex b ≡ true → b < 128
hex_small b h = grind arith

pub all_hex : (a b c d : Bool) → (a && b && c && d) ≡ true → (a ≡ true) × (b ≡ true) × (c ≡ true) × (d ≡ true)
all_hex true true true true h = (refl, refl, refl, refl)
all_hex true true true false h = absurd cc
all_hex true true false d h = absurd cc
all_hex true false c d h = absurd cc
all_hex false b c d h = absurd cc

pub unit_utf8 : (a b c d : ℕ) (others : List ℕ) → IsTrue (is_char (unit a b c d)) → IsUtf8 others →
    IsUtf8 (char_text (unit a b c d) ++ others)
unit_utf8 a b c d others h u =
    let k = all_hex (is_hex a) (is_hex b) (is_hex c) (is_hex d) h in
    cons_utf8 92 (117 ∷ a ∷ b ∷ c ∷ d ∷ others) (omega arith)
    (cons_utf8 117 (a ∷ b ∷ c ∷ d ∷ others) (omega arith)
    (cons_utf8 a (b ∷ c ∷ d ∷ others) (hex_small a k.0)
    (cons_utf8 b (c ∷ d ∷ others) (hex_small b k.1)
    (cons_utf8 c (d ∷ others) (hex_small c k.2) (cons_utf8 d others (hex_small d k.3) u)))))

pub short_small : (b c : ℕ) → short_escape b ≡ Some c → (b < 128) × (c < 128)
short_small b c h = (grind (arith, nat_tests), grind (arith, nat_tests))

-- a backslash and a letter
short_chars : (b c : ℕ) (rest : List ℕ) → short_escape b ≡ Some c → Chars (92 ∷ b ∷ rest) (encode_utf8 c) rest
short_chars b c rest e =
    let s = short_small b c e in
    record {
      chars = short b ∷ [];
      are = rw e refl;
      means = λ others. rw e (ap (λ (x : List ℕ). after x (text_of others)) (sym (encode_ascii c s.1)));
      valid = cons_utf8 92 (b ∷ []) (omega arith) (cons_utf8 b [] s.0 IsUtf8-nil);
      spelled = refl;
    }

pub record Low (bytes : List ℕ) (l : ℕ) (rest : List ℕ) : Type 0 where
  pub unit : Unit4 (drop 2 bytes) l rest
  pub is : is_low l ≡ true
  pub spelled : bytes ≡ 92 ∷ 117 ∷ drop 2 bytes

low_by : (r : Read ℕ) (l : ℕ) (rest : List ℕ) → low_of r ≡ Some (l, rest) → (r ≡ Ok (l, rest)) × (is_low l ≡ true)
low_by (Err f) l rest h = absurd cc
low_by (Ok u) l rest h = by (is_low u.0) refl h
  where
    by : (t : Bool) → is_low u.0 ≡ t → cond t (Some u) None ≡ Some (l, rest) →
        (◌≡◌ {A = Read ℕ} (Ok u) (Ok (l, rest))) × (is_low l ≡ true)
    by true e h = let same : u ≡ (l, rest) = cc in
        (ap (λ (x : ℕ × List ℕ). Ok x) same, subst (λ (x : ℕ × List ℕ). is_low x.0 ≡ true) same e)
    by false e h = absurd cc

low_ok : (bytes : List ℕ) (l : ℕ) (rest : List ℕ) → low_at bytes ≡ Some (l, rest) → Low bytes l rest
unfolding low_at
low_ok bytes l rest h =
    let p = low_by (word_at escape_head bytes >>= λ r. unit_at r) l rest h in
    let b = bound (word_at escape_head bytes) (λ r. unit_at r) (l, rest) p.0 in
    let w = word_ok escape_head bytes b.value b.first in
    let v : drop 2 bytes ≡ b.value = ap (λ (x : List ℕ). drop 2 x) w in
    record {
      unit = subst (λ (x : List ℕ). Unit4 x l rest) (sym v) (unit_ok b.value l rest b.second);
      is = p.1;
      spelled = w ∙ ap (λ (x : List ℕ). 92 ∷ 117 ∷ x) (sym v);
    }

-- one escaped code unit that is a character
one_chars : (bytes : List ℕ) (u : ℕ) (rest : List ℕ) → Unit4 bytes u rest → is_high u ≡ false → is_low u ≡ false →
    Chars (92 ∷ 117 ∷ bytes) (encode_utf8 u) rest
one_chars bytes u rest k h l = record {
  chars = unit k.a k.b k.c k.d ∷ [];
  are = rw k.are refl;
  means = λ others. unit_means k.a k.b k.c k.d others (rw k.worth h) (rw k.worth l)
      ∙ ap (λ (x : ℕ). after (encode_utf8 x) (text_of others)) k.worth;
  valid = unit_utf8 k.a k.b k.c k.d [] k.are IsUtf8-nil;
  spelled = ap (λ (x : List ℕ). 92 ∷ 117 ∷ x) k.spelled;
}

-- a surrogate pair
two_chars : (bytes : List ℕ) (u : ℕ) (behind : List ℕ) (l : ℕ) (rest : List ℕ) → Unit4 bytes u behind →
    is_high u ≡ true → Low behind l rest →
    Chars (92 ∷ 117 ∷ bytes) (encode_utf8 (pair_value u l)) rest
two_chars bytes u behind l rest k h low =
    let m = low.unit in
    record {
      chars = unit k.a k.b k.c k.d ∷ unit m.a m.b m.c m.d ∷ [];
      are = rw (k.are, m.are) refl;
      means = λ others.
          pair_means k.a k.b k.c k.d m.a m.b m.c m.d others (rw k.worth h) (rw m.worth low.is)
          ∙ ap (λ (x : ℕ). after (encode_utf8 (pair_value x (unit_value m.a m.b m.c m.d))) (text_of others)) k.worth
          ∙ ap (λ (x : ℕ). after (encode_utf8 (pair_value u x)) (text_of others)) m.worth;
      valid = unit_utf8 k.a k.b k.c k.d (char_text (unit m.a m.b m.c m.d) ++ [])
          k.are (unit_utf8 m.a m.b m.c m.d [] m.are IsUtf8-nil);
      spelled = ap (λ (x : List ℕ). 92 ∷ 117 ∷ x)
          (k.spelled ∙ ap (λ (x : List ℕ). k.a ∷ k.b ∷ k.c ∷ k.d ∷ x)
          (low.spelled ∙ ap (λ (x : List ℕ). 92 ∷ 117 ∷ x) m.spelled));
    }

char_by : (bytes : List ℕ) (u : ℕ) (behind : List ℕ) (c : ℕ) (rest : List ℕ) (h l : Bool) → Unit4 bytes u behind →
    is_high u ≡ h → is_low u ≡ l →
    cond h (pair_with u (low_at behind)) (cond l None (Some (u, behind))) ≡ Some (c, rest) →
    Chars (92 ∷ 117 ∷ bytes) (encode_utf8 c) rest
char_by bytes u behind c rest true l k e f made = by (low_at behind) refl made
  where
    by : (o : Option (ℕ × List ℕ)) → low_at behind ≡ o → pair_with u o ≡ Some (c, rest) →
        Chars (92 ∷ 117 ∷ bytes) (encode_utf8 c) rest
    by None e2 made = absurd cc
    by (Some low) e2 made =
        let same : (pair_value u low.0, low.1) ≡ (c, rest) = cc in
        let is_c : pair_value u low.0 ≡ c = ap (λ (x : ℕ × List ℕ). x.0) same in
        let left : low.1 ≡ rest = ap (λ (x : ℕ × List ℕ). x.1) same in
        subst (λ (x : ℕ). Chars (92 ∷ 117 ∷ bytes) (encode_utf8 x) rest) is_c
        (subst (λ (x : List ℕ). Chars (92 ∷ 117 ∷ bytes) (encode_utf8 (pair_value u low.0)) x)
        left (two_chars bytes u behind low.0 low.1 k e (low_ok behind low.0 low.1 e2)))
char_by bytes u behind c rest false true k e f made = absurd cc
char_by bytes u behind c rest false false k e f made =
    let same : (u, behind) ≡ (c, rest) = cc in
    let is_c : u ≡ c = ap (λ (x : ℕ × List ℕ). x.0) same in
    let left : behind ≡ rest = ap (λ (x : ℕ × List ℕ). x.1) same in
    subst (λ (x : ℕ). Chars (92 ∷ 117 ∷ bytes) (encode_utf8 x) rest) is_c
    (subst (λ (x : List ℕ). Chars (92 ∷ 117 ∷ bytes) (encode_utf8 u) x) left (one_chars bytes u behind k e f))

char_ok : (bytes : List ℕ) (u : ℕ) (behind : List ℕ) (c : ℕ) (rest : List ℕ) → Unit4 bytes u behind →
    char_at u behind ≡ Some (c, rest) →
    Chars (92 ∷ 117 ∷ bytes) (encode_utf8 c) rest
unfolding char_at
char_ok bytes u behind c rest k made = char_by bytes u behind c rest (is_high u) (is_low u) k refl refl made

escape_by : (left b : ℕ) (bytes : List ℕ) (c : ℕ) (rest : List ℕ) (t : Bool) → (b == 117) ≡ t →
    ◌≡◌ {A = Read ℕ} (cond t (unit_at bytes >>= λ u. or_fault (fault.Utf8 left) (char_at u.0 u.1))
    (or_fault (unexpected (b ∷ bytes)) (short_escape b) >>= λ c. Ok (c, bytes))) (Ok (c, rest)) →
    Chars (92 ∷ b ∷ bytes) (encode_utf8 c) rest
escape_by left b bytes c rest true e h =
    let p = bound (unit_at bytes) (λ u. or_fault (fault.Utf8 left) (char_at u.0 u.1)) (c, rest) h in
    let o = or_fault_ok (fault.Utf8 left) (char_at p.value.0 p.value.1) (c, rest) p.second in
    subst (λ (x : ℕ). Chars (92 ∷ x ∷ bytes) (encode_utf8 c) rest) (sym (eqb-true b 117 e))
    (char_ok bytes p.value.0 p.value.1 c rest (unit_ok bytes p.value.0 p.value.1 p.first) o)
escape_by left b bytes c rest false e h =
    let p = bound (or_fault (unexpected (b ∷ bytes)) (short_escape b)) (λ c. Ok (c, bytes)) (c, rest) h in
    let (made, behind) = ok_pair p.value c bytes rest p.second in
    let o = or_fault_ok (unexpected (b ∷ bytes)) (short_escape b) p.value p.first ∙ ap (λ (x : ℕ). Some x) made in
    subst (λ (x : List ℕ). Chars (92 ∷ b ∷ x) (encode_utf8 c) rest) (sym behind) (short_chars b c rest o)

pub escape_ok : (left : ℕ) (bytes : List ℕ) (c : ℕ) (rest : List ℕ) → escape_at left bytes ≡ Ok (c, rest) →
    Chars (92 ∷ bytes) (encode_utf8 c) rest
unfolding escape_at
escape_ok left [] c rest h = absurd cc
escape_ok left (b ∷ bytes) c rest h = escape_by left b bytes c rest (b == 117) refl h

pub after_after : (front text : List ℕ) (o : Option (List ℕ)) → after front (after text o) ≡ after (front ++ text) o
after_after front text None = refl
after_after front text (Some x) = ap (λ (t : List ℕ). Some t) (sym (append_assoc front text x))

pub run_means : (run : List ℕ) (others : List Char) → text_of (map plain run ++ others) ≡ after run (text_of others)
run_means [] others = by (text_of others)
  where
    by : (o : Option (List ℕ)) → o ≡ after [] o
    by None = refl
    by (Some x) = refl
run_means (b ∷ run) others = ap (λ (o : Option (List ℕ)). after (b ∷ []) o) (run_means run others)
    ∙ after_after (b ∷ []) run (text_of others)

pub run_text : (run : List ℕ) → flat_map char_text (map plain run) ≡ run
run_text [] = refl
run_text (b ∷ run) = ap (λ (t : List ℕ). b ∷ t) (run_text run)

pub run_all : (run : List ℕ) → list_all is_char (map plain run) ≡ list_all is_plain run
run_all [] = refl
run_all (b ∷ run) = ap (λ (t : Bool). is_plain b && t) (run_all run)

-- The string that is written of a text is that text.
use Rattle.std.proofs.Common.{◌≡◌, ◌≢◌, ℕ, ◌/◌, ◌%◌, ◌<◌, ◌≤◌, ◌==◌, inl, inr, Bool, true, false, ◌&&◌, cond, ltb, List, [], ◌∷◌, ◌++◌, length, get_or, map, Option, Some, refl, sym, ap, subst, ◌∙◌, arith}
use Rattle.std.proofs.lemmas.Bool.{eqb-true, eqb-false, ltb-true, ltb-false, cases_lt, and_from, agree_below_at, ne_eqb, le-leb}
use Rattle.std.proofs.lemmas.Grind.{flat_map-append}
use Rattle.std.proofs.lemmas.List.{append-nil, get_or_default}
use Rattle.std.proofs.lemmas.List.Folds.{list_all-append}
use Rattle.std.proofs.lemmas.List.Sums.{list_all-from_AllPass}
use Rattle.std.proofs.lemmas.Str.{encodes-chars, inside_one, encode_ascii}
use Rattle.std.specs.Char.{encode_utf8}
use Rattle.std.specs.List.{list_all, flat_map}
use Rattle.std.specs.Str.{IsUtf8, chars, encode_utf8_all}
use Rattle.json_text.specs.Strings.{is_plain, short_escape, is_high, is_low, Char, plain, short, unit, is_char, char_text, unit_value, after, text_of, IsString}
use Rattle.json_text.specs.Canonical.{low_hex, coded, escaped, quoted}
use Rattle.json_text.proofs.FoundStrings.{unit_means, run_means, run_text, run_all}

-- how a character is spelled
pub record Spelling (c : ℕ) (text : List ℕ) : Type 0 where
  pub spelled : List Char
  pub are : list_all is_char spelled ≡ true
  pub written : text ≡ flat_map char_text spelled
  pub means : (others : List Char) → text_of (spelled ++ others) ≡ after (encode_utf8 c) (text_of others)

-- ---- control characters

code_fits : ℕ → Bool
code_fits c = is_char (unit 48 48 (low_hex (c / 16)) (low_hex (c % 16))) &&
    (unit_value 48 48 (low_hex (c / 16)) (low_hex (c % 16)) == c)

codes_fit : (c : ℕ) → c < 32 → code_fits c ≡ true
unfolding code_fits
codes_fit c lt = agree_below_at code_fits (λ d. true) 32 c refl lt

two_parts : (x y : Bool) → (x && y) ≡ true → (x ≡ true) × (y ≡ true)
two_parts true true h = (refl, refl)
two_parts true false h = absurd cc
two_parts false y h = absurd cc

no_high : (u : ℕ) → u < 32 → is_high u ≡ false
no_high u lt = grind arith

no_low : (u : ℕ) → u < 32 → is_low u ≡ false
no_low u lt = grind arith

control_spelled : (c : ℕ) → c < 32 → Spelling c (92 ∷ 117 ∷ 48 ∷ 48 ∷ low_hex (c / 16) ∷ low_hex (c % 16) ∷ [])
unfolding code_fits
control_spelled c lt =
    let a = low_hex (c / 16) in
    let b = low_hex (c % 16) in
    let p = two_parts (is_char (unit 48 48 a b)) (unit_value 48 48 a b == c) (codes_fit c lt) in
    let same : unit_value 48 48 a b ≡ c = eqb-true (unit_value 48 48 a b) c p.1 in
    record {
      spelled = unit 48 48 a b ∷ [];
      are = rw p.0 refl;
      written = refl;
      means = λ others. unit_means 48 48 a b others (ap (λ (u : ℕ). is_high u) same ∙ no_high c lt)
          (ap (λ (u : ℕ). is_low u) same ∙ no_low c lt) ∙ ap (λ (u : ℕ). after (encode_utf8 u) (text_of others)) same;
    }

-- ---- characters as they are

high_plain : (b : ℕ) → 128 ≤ b → is_plain b ≡ true
high_plain b le = grind arith

low_plain : (b : ℕ) → 32 ≤ b → b ≢ 34 → b ≢ 92 → is_plain b ≡ true
low_plain b le q s = rw (le-leb 32 b le, ne_eqb b 34 q, ne_eqb b 92 s) refl

byte_plain : (c : ℕ) → 32 ≤ c → c ≢ 34 → c ≢ 92 → (k : ℕ) → k < length (encode_utf8 c) →
    is_plain (get_or (encode_utf8 c) k 0) ≡ true
byte_plain c le q s k lt =
    elim (cases_lt (get_or (encode_utf8 c) k 0) 128) [
      | inl small ↦ subst (λ (b : ℕ). is_plain b ≡ true)
          (inside_one c [] (encode_utf8 c) k (sym (append-nil (encode_utf8 c))) lt small) (low_plain c le q s)
      | inr large ↦ high_plain (get_or (encode_utf8 c) k 0) large
    ]

plain_spelled : (c : ℕ) → 32 ≤ c → c ≢ 34 → c ≢ 92 → Spelling c (encode_utf8 c)
plain_spelled c le q s = record {
  spelled = map plain (encode_utf8 c);
  are = run_all (encode_utf8 c) ∙ list_all-from_AllPass is_plain (encode_utf8 c)
      (λ k d lt. ap (λ (b : ℕ). is_plain b) (get_or_default (encode_utf8 c) k d 0 lt) ∙ byte_plain c le q s k lt);
  written = sym (run_text (encode_utf8 c));
  means = run_means (encode_utf8 c);
}

coded_by : (c : ℕ) (t : Bool) → ltb c 32 ≡ t → c ≢ 34 → c ≢ 92 →
    Spelling c (cond t (92 ∷ 117 ∷ 48 ∷ 48 ∷ low_hex (c / 16) ∷ low_hex (c % 16) ∷ []) (encode_utf8 c))
coded_by c true e q s = control_spelled c (ltb-true c 32 e)
coded_by c false e q s = plain_spelled c (ltb-false c 32 e) q s

coded_spelled : (c : ℕ) → c ≢ 34 → c ≢ 92 → Spelling c (coded c)
coded_spelled c q s = coded_by c (ltb c 32) refl q s

-- ---- characters with a letter of their own

short_spelled : (c b : ℕ) → short_escape b ≡ Some c → c < 128 → Spelling c (92 ∷ b ∷ [])
short_spelled c b e lt = record {
  spelled = short b ∷ [];
  are = rw e refl;
  written = refl;
  means = λ others. rw e (ap (λ (x : List ℕ). after x (text_of others)) (sym (encode_ascii c lt)));
}

either : (c k : ℕ) (text rest : List ℕ) (t : Bool) → (c == k) ≡ t → Spelling k text → (c ≢ k → Spelling c rest) →
    Spelling c (cond t text rest)
either c k text rest true e here other = subst (λ (x : ℕ). Spelling x text) (sym (eqb-true c k e)) here
either c k text rest false e here other = other (eqb-false c k e)

escaped_spelled : (c : ℕ) → Spelling c (escaped c)
escaped_spelled c =
    either c 34 (92 ∷ 34 ∷ []) _ (c == 34) refl (short_spelled 34 34 refl (omega arith)) (λ q.
    either c 92 (92 ∷ 92 ∷ []) _ (c == 92) refl (short_spelled 92 92 refl (omega arith)) (λ s.
    either c 8 (92 ∷ 98 ∷ []) _ (c == 8) refl (short_spelled 8 98 refl (omega arith)) (λ e1.
    either c 9 (92 ∷ 116 ∷ []) _ (c == 9) refl (short_spelled 9 116 refl (omega arith)) (λ e2.
    either c 10 (92 ∷ 110 ∷ []) _ (c == 10) refl (short_spelled 10 110 refl (omega arith)) (λ e3.
    either c 12 (92 ∷ 102 ∷ []) _ (c == 12) refl (short_spelled 12 102 refl (omega arith)) (λ e4.
    either c 13 (92 ∷ 114 ∷ []) _ (c == 13) refl (short_spelled 13 114 refl (omega arith)) (λ e5.
    coded_spelled c q s)))))))

-- ---- texts

pub record Spelled (cs : List ℕ) : Type 0 where
  pub spelled : List Char
  pub are : list_all is_char spelled ≡ true
  pub written : flat_map escaped cs ≡ flat_map char_text spelled
  pub means : text_of spelled ≡ Some (encode_utf8_all cs)

all_spelled : (cs : List ℕ) → Spelled cs
all_spelled [] = record { spelled = []; are = refl; written = refl; means = refl }
all_spelled (c ∷ cs) =
    let s = escaped_spelled c in
    let t = all_spelled cs in
    record {
      spelled = s.spelled ++ t.spelled;
      are = list_all-append is_char s.spelled t.spelled ∙ and_from (list_all is_char s.spelled)
          (list_all is_char t.spelled) s.are t.are;
      written = ap (λ (x : List ℕ). x ++ flat_map escaped cs) s.written ∙
          ap (λ (x : List ℕ). flat_map char_text s.spelled ++ x) t.written ∙
          sym (flat_map-append char_text s.spelled t.spelled);
      means = s.means t.spelled ∙ ap (λ (o : Option (List ℕ)). after (encode_utf8 c) o) t.means;
    }

-- a text is spelled as its string
pub quoted_is : (text : List ℕ) → IsUtf8 text → IsString (quoted text) (Some text)
quoted_is text u =
    let s = all_spelled (chars text) in (
      s.spelled,
      s.are,
      ap (λ (x : List ℕ). 34 ∷ (x ++ 34 ∷ [])) s.written,
      sym (s.means ∙ ap (λ (x : List ℕ). Some x) (encodes-chars text u)),
    )

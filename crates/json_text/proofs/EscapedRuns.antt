-- A text is written in runs: what needs no escape is written as it is.
use Rattle.std.proofs.Common.{◌≡◌, ℕ, suc, ◌+◌, ◌<◌, ◌≤◌, inl, inr, true, false, List, [], ◌∷◌, ◌++◌, length, get_or, take, drop, refl, sym, ap, subst, ◌∙◌, append_assoc, arith}
use Rattle.std.proofs.lemmas.Bool.{cases_lt, and_parts}
use Rattle.std.proofs.lemmas.Bool.Decides.{nat_tests}
use Rattle.std.proofs.lemmas.Grind.{flat_map-append}
use Rattle.std.proofs.lemmas.List.{append-nil, take-append-drop, length-drop, drop_more}
use Rattle.std.proofs.lemmas.List.Folds.{list_all-append}
use Rattle.std.proofs.lemmas.List.Sums.{prefix_len-le-length, prefix_len_stops}
use Rattle.std.proofs.lemmas.Str.{encodes-chars, encode_ascii, chars-append, chars_past_char, IsUtf8-take, IsUtf8-drop, IsCharBoundary-end, IsCharBoundary-before_ascii, IsCharBoundary-after_ascii}
use Rattle.std.specs.Char.{encode_utf8}
use Rattle.std.specs.List.{list_all, flat_map, prefix_len}
use Rattle.std.specs.Str.{IsUtf8, IsCharBoundary, chars, encode_utf8_all}
use Rattle.json_text.specs.Strings.{is_plain}
use Rattle.json_text.specs.Canonical.{escaped, escaped_text}
use Rattle.json_text.proofs.Prefix.{prefix_passes}

low_same : (c : ℕ) → is_plain c ≡ true → escaped c ≡ encode_utf8 c
low_same c h = grind (arith, nat_tests)

high_same : (c : ℕ) → 128 ≤ c → escaped c ≡ encode_utf8 c
high_same c le = grind (arith, nat_tests)

-- a character whose bytes are plain is written as it is
same : (c : ℕ) → list_all is_plain (encode_utf8 c) ≡ true → escaped c ≡ encode_utf8 c
same c h =
    elim (cases_lt c 128) [
      | inl small ↦ low_same c
          ((and_parts (is_plain c) true (subst (λ (bs : List ℕ). list_all is_plain bs ≡ true) (encode_ascii c small)
          h)).0)
      | inr large ↦ high_same c large
    ]

all_same : (cs : List ℕ) → list_all is_plain (encode_utf8_all cs) ≡ true → flat_map escaped cs ≡ encode_utf8_all cs
all_same [] h = refl
all_same (c ∷ cs) h =
    let (first, others) = and_parts (list_all is_plain (encode_utf8 c)) (list_all is_plain (encode_utf8_all cs))
    (sym (list_all-append is_plain (encode_utf8 c) (encode_utf8_all cs)) ∙ h) in
    rw (same c first, all_same cs others) refl

run_same : (run : List ℕ) → IsUtf8 run → list_all is_plain run ≡ true → escaped_text run ≡ run
run_same run u h =
    let e = encodes-chars run u in
    all_same (chars run) (subst (λ (bs : List ℕ). list_all is_plain bs ≡ true) (sym e) h) ∙ e

-- ---- at the first byte that isn't plain

pub headed : (rest bytes behind : List ℕ) → bytes ≡ rest → 1 ≤ length bytes → behind ≡ drop 1 rest →
    rest ≡ get_or bytes 0 0 ∷ behind
headed [] bytes behind e some d = absurd (subst (λ (bs : List ℕ). 1 ≤ length bs → ⊥) (sym e) (λ le. omega arith) some)
headed (b ∷ rest) bytes behind e some d = rw (e, d) refl

pub nothing_left : (rest bytes : List ℕ) → bytes ≡ rest → length bytes < 1 → rest ≡ []
nothing_left [] bytes e none = refl
nothing_left (b ∷ rest) bytes e none = absurd (subst (λ (bs : List ℕ). length bs < 1 → ⊥) (sym e) (λ lt. omega arith) none)

stops : (text : List ℕ) (n : ℕ) → n ≡ prefix_len is_plain text → n < length text → is_plain (get_or text n 0) ≡ false
stops text n e lt = subst (λ (k : ℕ). is_plain (get_or text k 0) ≡ false) (sym e)
    (prefix_len_stops is_plain text 0 (subst (λ (k : ℕ). k < length text) e lt))

pub escape_small : (b : ℕ) → is_plain b ≡ false → b < 128
escape_small b h = grind (arith, nat_tests)

-- a text may be cut there
pub cut_there : (text : List ℕ) (n : ℕ) → n ≡ prefix_len is_plain text → IsCharBoundary text n
cut_there text n e =
    elim (cases_lt n (length text)) [
      | inl lt ↦ IsCharBoundary-before_ascii text n lt (escape_small (get_or text n 0) (stops text n e lt))
      | inr le ↦
          let l : prefix_len is_plain text ≤ length text = prefix_len-le-length is_plain text in
          let s : length text ≡ n = omega arith in
          subst (λ (k : ℕ). IsCharBoundary text k) s (IsCharBoundary-end text)
    ]

pub after_escape : (rest behind : List ℕ) (b : ℕ) → IsUtf8 rest → is_plain b ≡ false → rest ≡ b ∷ behind → IsCharBoundary rest 1
after_escape rest behind b u h is =
    let some : 0 < length rest = omega (arith, ap length is) in
    IsCharBoundary-after_ascii rest 0 u some (subst (λ (bs : List ℕ). get_or bs 0 0 < 128) (sym is) (escape_small b h))

pub needs_escape : (text rest behind : List ℕ) (n b : ℕ) → n ≡ prefix_len is_plain text → rest ≡ drop n text →
    rest ≡ b ∷ behind → is_plain b ≡ false
needs_escape text rest behind n b e r is =
    let l : length (drop n text) ≡ suc (length behind) = ap length (sym r ∙ is) in
    let lt : n < length text = omega (arith, length-drop n text) in
    let at : get_or text n 0 ∷ drop (n + 1) text ≡ b ∷ behind = sym (drop_more text n 0 lt) ∙ sym r ∙ is in
    subst (λ (x : ℕ). is_plain x ≡ false) (ap (λ (bs : List ℕ). get_or bs 0 0) at) (stops text n e lt)

pub run_is : (text run : List ℕ) (n : ℕ) → IsUtf8 text → n ≡ prefix_len is_plain text → run ≡ take n text → escaped_text run ≡ run
run_is text run n u e r = run_same run (subst IsUtf8 (sym r) (IsUtf8-take text n u (cut_there text n e)))
    (prefix_passes is_plain text run n e r)

whole : (text run rest : List ℕ) (n : ℕ) → run ≡ take n text → rest ≡ drop n text → text ≡ run ++ rest
whole text run rest n r s = sym (take-append-drop n text) ∙ sym (rw (r, s) refl)

-- a text that needs no escape
pub no_escape : (text run rest : List ℕ) (n : ℕ) → IsUtf8 text → n ≡ prefix_len is_plain text → run ≡ take n text →
    rest ≡ drop n text → rest ≡ [] →
    escaped_text text ≡ text
no_escape text run rest n u e r s is =
    let t : text ≡ run = whole text run rest n r s ∙ ap (λ (bs : List ℕ). run ++ bs) is ∙ append-nil run in
    subst (λ (bs : List ℕ). escaped_text bs ≡ bs) (sym t) (run_is text run n u e r)

-- a text is written as a run, an escape and the rest
pub escape_between : (text run rest behind : List ℕ) (n b : ℕ) → IsUtf8 text → n ≡ prefix_len is_plain text →
    run ≡ take n text → rest ≡ drop n text → rest ≡ b ∷ behind →
    escaped_text text ≡ run ++ escaped b ++ escaped_text behind
escape_between text run rest behind n b u e r s is =
    let cut = cut_there text n e in
    let front : IsUtf8 run = subst IsUtf8 (sym r) (IsUtf8-take text n u cut) in
    let back : IsUtf8 rest = subst IsUtf8 (sym s) (IsUtf8-drop text n u cut) in
    let small = escape_small b (needs_escape text rest behind n b e s is) in
    let first : rest ≡ encode_utf8 b ++ behind = is ∙ ap (λ (bs : List ℕ). bs ++ behind) (sym (encode_ascii b small)) in
    ap escaped_text (whole text run rest n r s)
    ∙ ap (λ (cs : List ℕ). flat_map escaped cs) (chars-append run rest front ∙ ap (λ (cs : List ℕ). chars run ++ cs)
    (chars_past_char rest behind b back first))
    ∙ flat_map-append escaped (chars run) (b ∷ chars behind)
    ∙ ap (λ (bs : List ℕ). bs ++ (escaped b ++ escaped_text behind)) (run_is text run n u e r)
    ∙ sym (append_assoc run (escaped b) (escaped_text behind))

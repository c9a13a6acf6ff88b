-- A string of the grammar is read as the text that it is.
use Rattle.std.proofs.Common.{◌≡◌, ℕ, suc, ◌<◌, ◌==◌, Bool, true, false, List, [], ◌∷◌, ◌++◌, length, drop, Option, Some, None, Result, Ok, refl, sym, ap, subst, ◌∙◌, append_assoc, arith}
use Rattle.std.proofs.lemmas.Bool.{ne_eqb, and_from}
use Rattle.std.proofs.lemmas.List.{length-append}
use Rattle.std.proofs.lemmas.List.Folds.{list_all-append}
use Rattle.std.proofs.lemmas.Str.{IsUtf8-append, IsUtf8-nil, encode_ascii}
use Rattle.std.specs.List.{prefix_len, list_all, flat_map}
use Rattle.std.specs.Char.{encode_utf8}
use Rattle.std.specs.Str.{IsUtf8}
use Rattle.json_text.specs.declared.fault.Fault.{Fault}
use Rattle.json_text.specs.Strings.{is_plain, is_hex, hex_value, short_escape, is_some_escape, or_else, Char, plain, short, unit, is_char, char_text, unit_value, is_high, is_low, pair_value, after, text_of, IsString}
use Rattle.json_text.specs.Reading.{◌>>=◌, Read, repeated, hex_at, unit_at, escape_head, low_of, low_at, char_at, escape_at, end_at, run_at, piece_at, text_at}
use Rattle.json_text.proofs.Words.{run_ok}
use Rattle.json_text.proofs.Fronts.{cons_utf8}
use Rattle.json_text.proofs.FoundStrings.{all_hex, unit_means, pair_means, unit_utf8, short_small}
use Rattle.json_text.proofs.Spelled.{stops, front_taken, front_dropped, word_here, cut_front, cut_behind, Taken, last, more, taken_ok}
use Rattle.json_text.proofs.OnlyNumbers.{two_parts}

-- ---- escapes

hex_here : (b : ℕ) (rest : List ℕ) → is_hex b ≡ true → hex_at (b ∷ rest) ≡ Ok (hex_value b, rest)
unfolding hex_at
hex_here b rest e = rw e refl

unit_here : (a b c d : ℕ) (rest : List ℕ) → is_char (unit a b c d) ≡ true →
    unit_at (a ∷ b ∷ c ∷ d ∷ rest) ≡ Ok (unit_value a b c d, rest)
unfolding unit_at
unit_here a b c d rest h =
    let k = all_hex (is_hex a) (is_hex b) (is_hex c) (is_hex d) h in
    rw (
      hex_here a (b ∷ c ∷ d ∷ rest) k.0,
      hex_here b (c ∷ d ∷ rest) k.1,
      hex_here c (d ∷ rest) k.2,
      hex_here d rest k.3,
    ) refl

pub low_here : (a b c d : ℕ) (rest : List ℕ) → is_char (unit a b c d) ≡ true → is_low (unit_value a b c d) ≡ true →
    low_at (92 ∷ 117 ∷ a ∷ b ∷ c ∷ d ∷ rest) ≡ Some (unit_value a b c d, rest)
unfolding low_at
low_here a b c d rest h l =
    ap (λ (r : Result (List ℕ) Fault). low_of (r >>= λ x. unit_at x)) (word_here escape_head (a ∷ b ∷ c ∷ d ∷ rest))
    ∙ ap (λ (r : Read ℕ). low_of r) (unit_here a b c d rest h)
    ∙ rw l refl

-- an escape, whatever stands behind it
Escapes : List ℕ → ℕ → Type 0
Escapes escape c = (left : ℕ) (rest : List ℕ) → escape_at left (escape ++ rest) ≡ Ok (c, rest)

short_by : (left b c : ℕ) (rest : List ℕ) → (b == 117) ≡ false → short_escape b ≡ Some c →
    escape_at left (b ∷ rest) ≡ Ok (c, rest)
unfolding escape_at
short_by left b c rest n e = rw (n, e) refl

no_u : (b c : ℕ) → short_escape b ≡ Some c → (b == 117) ≡ false
no_u b c e = ne_eqb b 117 (λ z. let f : None ≡ Some c = ap (λ (x : ℕ). short_escape x) (sym z) ∙ e in absurd cc)

short_escapes : (b c : ℕ) → short_escape b ≡ Some c → Escapes (b ∷ []) c
unfolding Escapes
short_escapes b c e left rest = short_by left b c rest (no_u b c e) e

one_as : (left : ℕ) (bytes : List ℕ) (u : ℕ) (behind : List ℕ) (x : ℕ × List ℕ) → unit_at bytes ≡ Ok (u, behind) →
    char_at u behind ≡ Some x →
    escape_at left (117 ∷ bytes) ≡ Ok x
unfolding escape_at
one_as left bytes u behind x e f = rw (e, f) refl

one_char : (u : ℕ) (rest : List ℕ) → is_high u ≡ false → is_low u ≡ false → char_at u rest ≡ Some (u, rest)
unfolding char_at
one_char u rest h l = rw (h, l) refl

pair_char : (u low : ℕ) (bytes rest : List ℕ) → is_high u ≡ true → low_at bytes ≡ Some (low, rest) →
    char_at u bytes ≡ Some (pair_value u low, rest)
unfolding char_at
pair_char u low bytes rest h l = rw (h, l) refl

one_escapes : (a b c d : ℕ) → is_char (unit a b c d) ≡ true → is_high (unit_value a b c d) ≡ false →
    is_low (unit_value a b c d) ≡ false →
    Escapes (117 ∷ a ∷ b ∷ c ∷ d ∷ []) (unit_value a b c d)
unfolding Escapes
one_escapes a b c d k h l left rest =
    one_as left (a ∷ b ∷ c ∷ d ∷ rest) (unit_value a b c d) rest (unit_value a b c d, rest) (unit_here a b c d rest k)
    (one_char (unit_value a b c d) rest h l)

pair_escapes : (a b c d e f g i : ℕ) → is_char (unit a b c d) ≡ true → is_char (unit e f g i) ≡ true →
    is_high (unit_value a b c d) ≡ true →
    is_low (unit_value e f g i) ≡ true →
    Escapes (117 ∷ a ∷ b ∷ c ∷ d ∷ 92 ∷ 117 ∷ e ∷ f ∷ g ∷ i ∷ []) (pair_value (unit_value a b c d) (unit_value e f g i))
unfolding Escapes
pair_escapes a b c d e f g i k m h l left rest =
    let behind = 92 ∷ 117 ∷ e ∷ f ∷ g ∷ i ∷ rest in
    one_as left (a ∷ b ∷ c ∷ d ∷ behind) (unit_value a b c d)
    behind (pair_value (unit_value a b c d) (unit_value e f g i), rest) (unit_here a b c d behind k)
    (pair_char (unit_value a b c d) (unit_value e f g i) behind rest h (low_here e f g i rest m l))

-- ---- pieces

run_here : (run rest : List ℕ) → list_all is_plain run ≡ true → stops is_plain rest ≡ true → IsUtf8 run →
    run_at (run ++ rest) ≡ Ok (run, rest)
run_here run rest h s u =
    run_ok (run ++ rest) (prefix_len is_plain (run ++ rest)) run run rest refl (sym (front_taken is_plain run rest h s))
    (sym (front_dropped is_plain run rest h s)) refl u

piece_as : (bytes run behind text : List ℕ) (again : Bool) (rest : List ℕ) → run_at bytes ≡ Ok (run, behind) →
    end_at behind ≡ Ok ((text, again), rest) → piece_at bytes ≡ Ok ((run ++ text, again), rest)
unfolding piece_at
piece_as bytes run behind text again rest r e = rw (r, e) refl

end_here : (rest : List ℕ) → end_at (34 ∷ rest) ≡ Ok (([], false), rest)
unfolding end_at
end_here rest = refl

end_escape : (bytes : List ℕ) (c : ℕ) (rest : List ℕ) → escape_at (suc (length bytes)) bytes ≡ Ok (c, rest) →
    end_at (92 ∷ bytes) ≡ Ok ((encode_utf8 c, true), rest)
unfolding end_at
end_escape bytes c rest e = rw e refl

-- what is written of these characters and behind them
abbrev written : List Char → List ℕ → List ℕ
written chars rest = flat_map char_text chars ++ 34 ∷ rest

pub record AfterIs (front : List ℕ) (o : Option (List ℕ)) (text : List ℕ) : Type 0 where
  pub behind : List ℕ
  pub is : o ≡ Some behind
  pub whole : front ++ behind ≡ text

after_is : (front : List ℕ) (o : Option (List ℕ)) (text : List ℕ) → after front o ≡ Some text → AfterIs front o text
after_is front None text h = absurd cc
after_is front (Some x) text h = record { behind = x; is = refl; whole = cc }

-- characters are read behind a run of plain ones
StringTaken : List Char → Type 0
StringTaken chars =
    (run text rest : List ℕ) → list_all is_plain run ≡ true → list_all is_char chars ≡ true →
    text_of chars ≡ Some text →
    IsUtf8 (run ++ written chars rest) → Taken piece_at (run ++ written chars rest) (run ++ text) rest

behind_shorter : (run rest : List ℕ) (front : List ℕ) (b : ℕ) → length rest < length (run ++ (b ∷ front ++ rest))
behind_shorter run rest front b = let l = length-append run (b ∷ front ++ rest) in let m =
    length-append (b ∷ front) rest in omega arith

none_taken : StringTaken []
unfolding StringTaken
none_taken run text rest p q t u =
    let e : piece_at (run ++ 34 ∷ rest) ≡ Ok ((run ++ [], false), rest) = piece_as (run ++ 34 ∷ rest) run (34 ∷ rest) []
    false rest (run_here run (34 ∷ rest) p refl (cut_front run 34 rest (omega arith) u)) (end_here rest) in
    let same : [] ≡ text = cc in
    subst (λ (x : List ℕ). Taken piece_at (run ++ 34 ∷ rest) (run ++ x) rest)
    same (last (run ++ 34 ∷ rest) (run ++ []) rest e (behind_shorter run rest [] 34))

escape_taken : (chars : List Char) → StringTaken chars → (escape : List ℕ) (c : ℕ) → Escapes escape c → IsUtf8 escape →
    (run text rest : List ℕ) →
    list_all is_plain run ≡ true →
    list_all is_char chars ≡ true → text_of chars ≡ Some text → IsUtf8 (run ++ (92 ∷ escape ++ written chars rest)) →
    Taken piece_at (run ++ (92 ∷ escape ++ written chars rest)) (run ++ (encode_utf8 c ++ text)) rest
unfolding StringTaken Escapes
escape_taken chars others escape c is valid run text rest p q t u =
    let behind = written chars rest in
    let bytes = run ++ (92 ∷ escape ++ behind) in
    let run_valid = cut_front run 92 (escape ++ behind) (omega arith) u in
    let front_valid : IsUtf8 (run ++ 92 ∷ escape) = IsUtf8-append run (92 ∷ escape) run_valid
    (cons_utf8 92 escape (omega arith) valid) in
    let behind_valid : IsUtf8 behind = cut_behind (run ++ 92 ∷ escape)
    behind (subst IsUtf8 (sym (append_assoc run (92 ∷ escape) behind)) u) front_valid in
    let e : piece_at bytes ≡ Ok ((run ++ encode_utf8 c, true), behind) =
    piece_as bytes run (92 ∷ escape ++ behind) (encode_utf8 c) true
    behind (run_here run (92 ∷ escape ++ behind) p refl run_valid)
    (end_escape (escape ++ behind) c behind (is (suc (length (escape ++ behind))) behind)) in
    subst (λ (x : List ℕ). Taken piece_at bytes x rest) (append_assoc run (encode_utf8 c) text)
    (more bytes (run ++ encode_utf8 c) behind text rest e (behind_shorter run behind escape 92)
    (others [] text rest refl q t behind_valid))

plain_taken : (b : ℕ) (chars : List Char) → StringTaken chars → StringTaken (plain b ∷ chars)
unfolding StringTaken
plain_taken b chars others run text rest p q t u =
    let k = two_parts (is_plain b) (list_all is_char chars) q in
    let a = after_is (b ∷ []) (text_of chars) text t in
    let longer : list_all is_plain (run ++ b ∷ []) ≡ true = list_all-append is_plain run (b ∷ [])
    ∙ and_from (list_all is_plain run) (list_all is_plain (b ∷ [])) p (rw k.0 refl) in
    let same : (run ++ b ∷ []) ++ written chars rest ≡ run ++ (b ∷ written chars rest) = append_assoc run (b ∷ [])
    (written chars rest) in
    let taken = others (run ++ b ∷ []) a.behind rest longer k.1 a.is (subst IsUtf8 (sym same) u) in
    subst (λ (x : List ℕ). Taken piece_at x (run ++ text) rest) same
    (subst (λ (x : List ℕ). Taken piece_at ((run ++ b ∷ []) ++ written chars rest) x rest)
    (append_assoc run (b ∷ []) a.behind ∙ ap (λ (x : List ℕ). run ++ x) a.whole) taken)

some_escape : (b : ℕ) (o : Option ℕ) → short_escape b ≡ o → is_some_escape o ≡ true →
    short_escape b ≡ Some (or_else (short_escape b))
some_escape b None e h = absurd cc
some_escape b (Some c) e h = rw e refl

short_taken : (b : ℕ) (chars : List Char) → StringTaken chars → StringTaken (short b ∷ chars)
unfolding StringTaken
short_taken b chars others run text rest p q t u =
    let k = two_parts (is_char (short b)) (list_all is_char chars) q in
    let c = or_else (short_escape b) in
    let e = some_escape b (short_escape b) refl k.0 in
    let s = short_small b c e in
    let a = after_is (c ∷ []) (text_of chars) text t in
    let taken = escape_taken chars others (b ∷ []) c (short_escapes b c e) (cons_utf8 b [] s.0 IsUtf8-nil) run a.behind
    rest p k.1 a.is u in
    subst (λ (x : List ℕ). Taken piece_at (run ++ written (short b ∷ chars) rest) (run ++ x) rest)
    (ap (λ (x : List ℕ). x ++ a.behind) (encode_ascii c s.1) ∙ a.whole) taken

digits_utf8 : (a b c d : ℕ) (others : List ℕ) → is_char (unit a b c d) ≡ true → IsUtf8 others →
    IsUtf8 (117 ∷ a ∷ b ∷ c ∷ d ∷ others)
digits_utf8 a b c d others h u = cut_behind (92 ∷ []) (117 ∷ a ∷ b ∷ c ∷ d ∷ others) (unit_utf8 a b c d others h u)
    (cons_utf8 92 [] (omega arith) IsUtf8-nil)

-- an escaped code unit that is a character
one_taken : (a b c d : ℕ) (chars : List Char) → is_high (unit_value a b c d) ≡ false →
    is_low (unit_value a b c d) ≡ false → StringTaken chars →
    StringTaken (unit a b c d ∷ chars)
unfolding StringTaken
one_taken a b c d chars h l others run text rest p q t u =
    let k = two_parts (is_char (unit a b c d)) (list_all is_char chars) q in
    let v = unit_value a b c d in
    let x = after_is (encode_utf8 v) (text_of chars) text (sym (unit_means a b c d chars h l) ∙ t) in
    let taken = escape_taken chars others (117 ∷ a ∷ b ∷ c ∷ d ∷ []) v (one_escapes a b c d k.0 h l)
    (digits_utf8 a b c d [] k.0 IsUtf8-nil) run x.behind rest p k.1 x.is u in
    subst (λ (y : List ℕ). Taken piece_at (run ++ written (unit a b c d ∷ chars) rest) (run ++ y) rest) x.whole taken

-- a surrogate pair
pair_taken : (a b c d e f g i : ℕ) (chars : List Char) → is_high (unit_value a b c d) ≡ true →
    is_low (unit_value e f g i) ≡ true →
    StringTaken chars → StringTaken (unit a b c d ∷ unit e f g i ∷ chars)
unfolding StringTaken
pair_taken a b c d e f g i chars h l others run text rest p q t u =
    let k = two_parts (is_char (unit a b c d)) (list_all is_char (unit e f g i ∷ chars)) q in
    let m = two_parts (is_char (unit e f g i)) (list_all is_char chars) k.1 in
    let v = pair_value (unit_value a b c d) (unit_value e f g i) in
    let x = after_is (encode_utf8 v) (text_of chars) text (sym (pair_means a b c d e f g i chars h l) ∙ t) in
    let escape = 117 ∷ a ∷ b ∷ c ∷ d ∷ 92 ∷ 117 ∷ e ∷ f ∷ g ∷ i ∷ [] in
    let valid = digits_utf8 a b c d (92 ∷ 117 ∷ e ∷ f ∷ g ∷ i ∷ []) k.0 (unit_utf8 e f g i [] m.0 IsUtf8-nil) in
    let taken = escape_taken chars others escape v (pair_escapes a b c d e f g i k.0 m.0 h l) valid run x.behind rest p
    m.1 x.is u in
    subst (λ (y : List ℕ). Taken piece_at (run ++ written (unit a b c d ∷ unit e f g i ∷ chars) rest) (run ++ y) rest)
    x.whole taken

-- a surrogate without its partner is no text
pub low_alone : (a b c d : ℕ) (chars : List Char) → is_high (unit_value a b c d) ≡ false →
    is_low (unit_value a b c d) ≡ true →
    text_of (unit a b c d ∷ chars) ≡ None
low_alone a b c d [] h l = rw (h, l) refl
low_alone a b c d (plain x ∷ chars) h l = rw (h, l) refl
low_alone a b c d (short x ∷ chars) h l = rw (h, l) refl
low_alone a b c d (unit e f g i ∷ chars) h l = rw (h, l) refl

no_string : (chars : List Char) → text_of chars ≡ None → StringTaken chars
unfolding StringTaken
no_string chars n run text rest p q t u = let z : None ≡ Some text = sym n ∙ t in absurd cc

unit_taken : (a b c d : ℕ) (chars : List Char) (h l : Bool) → is_high (unit_value a b c d) ≡ h →
    is_low (unit_value a b c d) ≡ l →
    (is_high (unit_value a b c d) ≡ true → StringTaken (unit a b c d ∷ chars)) → StringTaken chars →
    StringTaken (unit a b c d ∷ chars)
unit_taken a b c d chars true l e f high others = high e
unit_taken a b c d chars false true e f high others = no_string (unit a b c d ∷ chars) (low_alone a b c d chars e f)
unit_taken a b c d chars false false e f high others = one_taken a b c d chars e f others

high_taken : (a b c d e f g i : ℕ) (chars : List Char) (l : Bool) → is_low (unit_value e f g i) ≡ l →
    is_high (unit_value a b c d) ≡ true →
    StringTaken chars → StringTaken (unit a b c d ∷ unit e f g i ∷ chars)
high_taken a b c d e f g i chars true l h others = pair_taken a b c d e f g i chars h l others
high_taken a b c d e f g i chars false l h others = no_string (unit a b c d ∷ unit e f g i ∷ chars) (rw (h, l) refl)

string_taken : (chars : List Char) → StringTaken chars
string_taken [] = none_taken
string_taken (plain b ∷ chars) = plain_taken b chars (string_taken chars)
string_taken (short b ∷ chars) = short_taken b chars (string_taken chars)
string_taken (unit a b c d ∷ []) =
    unit_taken a b c d [] (is_high (unit_value a b c d)) (is_low (unit_value a b c d)) refl
    refl (λ h. no_string (unit a b c d ∷ []) (rw h refl)) none_taken
string_taken (unit a b c d ∷ plain x ∷ chars) =
    unit_taken a b c d (plain x ∷ chars) (is_high (unit_value a b c d)) (is_low (unit_value a b c d)) refl
    refl (λ h. no_string (unit a b c d ∷ plain x ∷ chars) (rw h refl)) (string_taken (plain x ∷ chars))
string_taken (unit a b c d ∷ short x ∷ chars) =
    unit_taken a b c d (short x ∷ chars) (is_high (unit_value a b c d)) (is_low (unit_value a b c d)) refl
    refl (λ h. no_string (unit a b c d ∷ short x ∷ chars) (rw h refl)) (string_taken (short x ∷ chars))
string_taken (unit a b c d ∷ unit e f g i ∷ chars) =
    unit_taken a b c d (unit e f g i ∷ chars) (is_high (unit_value a b c d)) (is_low (unit_value a b c d)) refl refl
    (λ h. high_taken a b c d e f g i chars (is_low (unit_value e f g i)) refl h (string_taken chars))
    (string_taken (unit e f g i ∷ chars))

-- a string is read, its quotation mark before it taken away
pub string_here : (written text rest : List ℕ) → IsString written (Some text) → IsUtf8 (written ++ rest) →
    (written ++ rest ≡ 34 ∷ drop 1 (written ++ rest)) × (text_at (drop 1 (written ++ rest)) ≡ Ok (text, rest))
unfolding text_at StringTaken
string_here written text rest (chars, are, spelled, is) u =
    let inner = flat_map char_text chars ++ 34 ∷ rest in
    let whole : written ++ rest ≡ 34 ∷ inner = ap (λ (x : List ℕ). x ++ rest) spelled ∙ ap (λ (x : List ℕ). 34 ∷ x)
    (append_assoc (flat_map char_text chars) (34 ∷ []) rest) in
    let behind : drop 1 (written ++ rest) ≡ inner = ap (λ (x : List ℕ). drop 1 x) whole in
    let valid : IsUtf8 inner = cut_behind (34 ∷ []) inner (subst IsUtf8 whole u)
    (cons_utf8 34 [] (omega arith) IsUtf8-nil) in
    let taken = string_taken chars [] text rest refl are (sym is) valid in (
      whole ∙ ap (λ (x : List ℕ). 34 ∷ x) (sym behind),
      ap (λ (x : List ℕ). repeated piece_at (length x) x) behind
          ∙ taken_ok piece_at inner text rest taken (length inner) (omega arith),
    )

-- What stands before a fault in a string begins a text that is read.
use Rattle.std.proofs.Common.{◌≡◌, ℕ, suc, ◌+◌, ◌*◌, ◌<◌, ◌==◌, ◌⊎◌, inl, inr, Bool, true, false, ◌&&◌, cond, List, [], ◌∷◌, ◌++◌, length, map, Some, Ok, Err, refl, sym, ap, subst, ◌∙◌, append_assoc, arith}
use Rattle.std.proofs.lemmas.Bool.{eqb-true, and_from}
use Rattle.std.proofs.lemmas.Grind.{flat_map-append}
use Rattle.std.proofs.lemmas.List.{append-nil}
use Rattle.std.proofs.lemmas.List.Folds.{list_all-append}
use Rattle.std.proofs.lemmas.Str.{IsUtf8-nil}
use Rattle.std.specs.Prelude.{IsTrue}
use Rattle.std.specs.List.{list_all, flat_map}
use Rattle.std.specs.Char.{encode_utf8}
use Rattle.std.specs.Str.{IsUtf8}
use Rattle.json_text.specs.declared.fault.Fault.{Fault}
use Rattle.json_text.specs.declared.fault.Fault.TheVariants as fault
use Rattle.json_text.specs.Strings.{is_hex, short_escape, Char, plain, short, unit, is_char, char_text, unit_value, text_of, after, IsString}
use Rattle.text_prefixes.specs.Prefixes.{Begins}
use Rattle.json_text.specs.Faults.{IsEscape, IsUnfinished, LoneHere}
use Rattle.json_text.specs.Reading.{◌>>=◌, Read, unexpected, or_fault, hex_at, unit_at, char_at, escape_at, end_at, run_at, piece_at, text_at}
use Rattle.json_text.proofs.Fronts.{word_utf8}
use Rattle.json_text.proofs.Sequences.{two_parts, lone}
use Rattle.json_text.proofs.FoundStrings.{hex_ok, unit_ok, Chars, run_text, run_all, run_means}
use Rattle.json_text.proofs.FoundTexts.{run_is, piece_ok}
use Rattle.json_text.proofs.Pieces.{piece_shrinks}
use Rattle.json_text.proofs.Cuts.{left_of, either_failed, ok_no_err, err_same, or_fault_err, FailedTurns, fails, spent, later, turns_err}
use Rattle.json_text.proofs.CutEscapes.{hex_err}
use Rattle.json_text.proofs.CutStrings.{run_fails}
use Rattle.json_text.proofs.Clears.{anywhere, in_string, Says, Clear, clear_in, clear_at, nothing, part_of_escape}

-- the rest of a string that is a text, with the quotation mark behind it
pub record IsEnd (bytes : List ℕ) : Type 0 where
  pub chars : List Char
  pub are : list_all is_char chars ≡ true
  pub text : List ℕ
  pub means : text_of chars ≡ Some text
  pub spelled : bytes ≡ flat_map char_text chars ++ 34 ∷ []

space_end : IsEnd (32 ∷ 34 ∷ [])
space_end = record { chars = plain 32 ∷ []; are = refl; text = 32 ∷ []; means = refl; spelled = refl }

cross_end : IsEnd (120 ∷ 34 ∷ [])
cross_end = record { chars = plain 120 ∷ []; are = refl; text = 120 ∷ []; means = refl; spelled = refl }

quote_utf8 : IsUtf8 (34 ∷ [])
quote_utf8 = word_utf8 (34 ∷ []) refl

-- ---- escapes

-- some hexadecimal digits, fewer than four, and none behind them
record FewDigits (bytes : List ℕ) (f : Fault) : Type 0 where
  digits : List ℕ
  rest : List ℕ
  are : list_all is_hex digits ≡ true
  few : length digits < 4
  spelled : bytes ≡ digits ++ rest
  is : unexpected rest ≡ f

unit_fails : (bytes : List ℕ) (f : Fault) → unit_at bytes ≡ Err f → FewDigits bytes f
unfolding unit_at
unit_fails bytes f h =
    either_failed {B = ℕ × List ℕ} (hex_at bytes)
    (λ a. hex_at a.1 >>= λ b. hex_at b.1 >>= λ c. hex_at c.1 >>= λ d. Ok (
      ((a.0 * 16 + b.0) * 16 + c.0) * 16 + d.0,
      d.1,
    )) f (FewDigits bytes f)
    (λ e. record {
      digits = [];
      rest = bytes;
      are = refl;
      few = omega arith;
      spelled = refl;
      is = (hex_err bytes f e).0;
    })
    (λ x p g. let i = hex_ok bytes x.0 x.1 p in
    either_failed {B = ℕ × List ℕ} (hex_at x.1)
    (λ b. hex_at b.1 >>= λ c. hex_at c.1 >>= λ d. Ok (((x.0 * 16 + b.0) * 16 + c.0) * 16 + d.0, d.1))
    f (FewDigits bytes f)
    (λ e. record {
      digits = i.digit ∷ [];
      rest = x.1;
      are = rw i.is refl;
      few = omega arith;
      spelled = i.spelled;
      is = (hex_err x.1 f e).0;
    })
    (λ y q k. let j = hex_ok x.1 y.0 y.1 q in
    either_failed {B = ℕ × List ℕ} (hex_at y.1)
    (λ c. hex_at c.1 >>= λ d. Ok (((x.0 * 16 + y.0) * 16 + c.0) * 16 + d.0, d.1)) f (FewDigits bytes f)
    (λ e. record {
      digits = i.digit ∷ j.digit ∷ [];
      rest = y.1;
      are = rw (i.is, j.is) refl;
      few = omega arith;
      spelled = i.spelled ∙ ap (λ (t : List ℕ). i.digit ∷ t) j.spelled;
      is = (hex_err y.1 f e).0;
    })
    (λ z r l. let m = hex_ok y.1 z.0 z.1 r in
    either_failed {B = ℕ × List ℕ} (hex_at z.1) (λ d. Ok (((x.0 * 16 + y.0) * 16 + z.0) * 16 + d.0, d.1))
    f (FewDigits bytes f)
    (λ e. record {
      digits = i.digit ∷ j.digit ∷ m.digit ∷ [];
      rest = z.1;
      are = rw (i.is, j.is, m.is) refl;
      few = omega arith;
      spelled = i.spelled ∙ ap (λ (t : List ℕ). i.digit ∷ t) (j.spelled ∙ ap (λ (t : List ℕ). j.digit ∷ t) m.spelled);
      is = (hex_err z.1 f e).0;
    })
    (λ w s never. absurd (ok_no_err (((x.0 * 16 + y.0) * 16 + z.0) * 16 + w.0, w.1) f never)) l) k) g) h

-- four digits, of which the last are 0
four_begin : (a b c d : ℕ) (more : List ℕ) (digits : List ℕ) → digits ++ more ≡ a ∷ b ∷ c ∷ d ∷ [] →
    IsTrue (is_char (unit a b c d)) →
    Begins IsEscape (92 ∷ 117 ∷ digits)
four_begin a b c d more digits e are =
    (more, inr (unit_value a b c d, (a, b, c, d, are, refl, ap (λ (x : List ℕ). 92 ∷ 117 ∷ x) e)))

digits_begin : (digits : List ℕ) → list_all is_hex digits ≡ true → length digits < 4 →
    Begins IsEscape (92 ∷ 117 ∷ digits)
digits_begin [] h few = four_begin 48 48 48 48 (48 ∷ 48 ∷ 48 ∷ 48 ∷ []) [] refl refl
digits_begin (a ∷ []) h few = let p = two_parts (is_hex a) true h in four_begin a 48 48 48 (48 ∷ 48 ∷ 48 ∷ [])
    (a ∷ []) refl (rw p.0 refl)
digits_begin (a ∷ b ∷ []) h few =
    let p = two_parts (is_hex a) (is_hex b && true) h in
    let q = two_parts (is_hex b) true p.1 in
    four_begin a b 48 48 (48 ∷ 48 ∷ []) (a ∷ b ∷ []) refl (rw (p.0, q.0) refl)
digits_begin (a ∷ b ∷ c ∷ []) h few =
    let p = two_parts (is_hex a) (is_hex b && (is_hex c && true)) h in
    let q = two_parts (is_hex b) (is_hex c && true) p.1 in
    let r = two_parts (is_hex c) true q.1 in
    four_begin a b c 48 (48 ∷ []) (a ∷ b ∷ c ∷ []) refl (rw (p.0, q.0, r.0) refl)
digits_begin (a ∷ b ∷ c ∷ d ∷ more) h few = absurd (omega arith)

digits_none : (digits : List ℕ) → length digits < 4 → IsEscape (92 ∷ 117 ∷ digits) → ⊥
digits_none digits few (inl (b, h, e)) =
    let same : 117 ≡ b = cc in
    let never : false ≡ true = subst (λ (x : ℕ). IsTrue (is_char (short x))) (sym same) h in
    absurd cc
digits_none digits few (inr (u, (a, b, c, d, h, w, e))) =
    let l : length (92 ∷ 117 ∷ digits) ≡ 6 = ap (λ (x : List ℕ). length x) e in
    omega arith

digits_unfinished : (digits : List ℕ) → list_all is_hex digits ≡ true → length digits < 4 →
    IsUnfinished (92 ∷ 117 ∷ digits)
digits_unfinished digits h few = part_of_escape (117 ∷ digits) (digits_begin digits h few) (digits_none digits few)

back_none : IsEscape (92 ∷ []) → ⊥
back_none (inl (b, h, e)) = absurd cc
back_none (inr (u, (a, b, c, d, h, w, e))) = absurd cc

back_unfinished : IsUnfinished (92 ∷ [])
back_unfinished = part_of_escape [] (110 ∷ [], inl (110, refl, refl)) back_none

lone_clear : (left : ℕ) (bytes : List ℕ) (f : Fault) → left ≡ length bytes → fault.Utf8 left ≡ f → LoneHere bytes →
    Clear IsEnd bytes f
lone_clear left bytes f l e alone = record {
  spot = in_string;
  head = [];
  tail = [];
  rest = bytes;
  more = 34 ∷ [];
  spelled = refl;
  left = ap (λ (g : Fault). left_of g) (sym e) ∙ l;
  is = by;
  valid = IsUtf8-nil;
  completed = quote_utf8;
  unfinished = refl;
  says = let says : Says (fault.Utf8 left) in_string bytes = inr (refl, alone) in
      subst (λ (g : Fault). Says g in_string bytes) e says;
}
  where
    by : (next : List ℕ) → ((next ≡ 32 ∷ []) ⊎ (next ≡ 120 ∷ [])) → IsEnd (next ++ 34 ∷ [])
    by next (inl e) = subst (λ (x : List ℕ). IsEnd (x ++ 34 ∷ [])) (sym e) space_end
    by next (inr e) = subst (λ (x : List ℕ). IsEnd (x ++ 34 ∷ [])) (sym e) cross_end

escape_by : (left b : ℕ) (bytes : List ℕ) (f : Fault) (t : Bool) → left ≡ length (92 ∷ b ∷ bytes) → (b == 117) ≡ t →
    ◌≡◌ {A = Read ℕ} (cond t (unit_at bytes >>= λ u. or_fault (fault.Utf8 left) (char_at u.0 u.1))
    (or_fault (unexpected (b ∷ bytes)) (short_escape b) >>= λ c. Ok (c, bytes))) (Err f) →
    Clear IsEnd (92 ∷ b ∷ bytes) f
escape_by left b bytes f true l e h =
    let same : 92 ∷ b ∷ bytes ≡ 92 ∷ 117 ∷ bytes = ap (λ (x : ℕ). 92 ∷ x ∷ bytes) (eqb-true b 117 e) in
    either_failed {B = ℕ × List ℕ} (unit_at bytes) (λ u. or_fault (fault.Utf8 left) (char_at u.0 u.1))
    f (Clear IsEnd (92 ∷ b ∷ bytes) f)
    (λ g. let c = unit_fails bytes f g in
    clear_at IsEnd [] (92 ∷ 117 ∷ c.digits) c.rest (34 ∷ []) (92 ∷ b ∷ bytes) f IsUtf8-nil quote_utf8
    (same ∙ ap (λ (x : List ℕ). 92 ∷ 117 ∷ x) c.spelled) c.is (digits_unfinished c.digits c.are c.few) space_end)
    (λ u p g. let o = or_fault_err (fault.Utf8 left) (char_at u.0 u.1) f g in
    lone_clear left (92 ∷ b ∷ bytes) f l
    o.0 (subst LoneHere (sym same) (lone bytes u.0 u.1 (unit_ok bytes u.0 u.1 p) o.1))) h
escape_by left b bytes f false l e h =
    either_failed {B = ℕ × List ℕ} (or_fault (unexpected (b ∷ bytes)) (short_escape b)) (λ c. Ok (c, bytes))
    f (Clear IsEnd (92 ∷ b ∷ bytes) f)
    (λ g. let p = or_fault_err (unexpected (b ∷ bytes)) (short_escape b) f g in
    clear_at IsEnd [] (92 ∷ []) (b ∷ bytes) (34 ∷ []) (92 ∷ b ∷ bytes) f IsUtf8-nil quote_utf8 refl p.0 back_unfinished
    space_end)
    (λ c p never. absurd (ok_no_err (c, bytes) f never)) h

escape_clear : (left : ℕ) (bytes : List ℕ) (f : Fault) → left ≡ suc (length bytes) → escape_at left bytes ≡ Err f →
    Clear IsEnd (92 ∷ bytes) f
unfolding escape_at
escape_clear left [] f l h = clear_at IsEnd [] (92 ∷ []) [] (34 ∷ []) (92 ∷ []) f IsUtf8-nil quote_utf8
    refl (err_same {A = ℕ × List ℕ} (unexpected []) f h) back_unfinished space_end
escape_clear left (b ∷ bytes) f l h = escape_by left b bytes f (b == 117) l refl h

-- ---- pieces

stuck_here : (bytes : List ℕ) (f : Fault) → unexpected bytes ≡ f → Clear IsEnd bytes f
stuck_here bytes f e = clear_at IsEnd [] [] bytes (34 ∷ []) bytes f IsUtf8-nil quote_utf8 refl e nothing space_end

end_by : (b : ℕ) (bytes : List ℕ) (f : Fault) (q s : Bool) → (b == 92) ≡ s →
    ◌≡◌ {A = Read (List ℕ × Bool)} (cond q (Ok (([], false), bytes))
    (cond s (escape_at (suc (length bytes)) bytes >>= λ c. Ok ((encode_utf8 c.0, true), c.1))
    (Err (unexpected (b ∷ bytes))))) (Err f) → Clear IsEnd (b ∷ bytes) f
end_by b bytes f true s e h = absurd cc
end_by b bytes f false true e h =
    either_failed {B = (List ℕ × Bool) × List ℕ} (escape_at (suc (length bytes)) bytes)
    (λ c. Ok ((encode_utf8 c.0, true), c.1)) f (Clear IsEnd (b ∷ bytes) f)
    (λ g. subst (λ (x : ℕ). Clear IsEnd (x ∷ bytes) f) (sym (eqb-true b 92 e))
    (escape_clear (suc (length bytes)) bytes f refl g))
    (λ c p never. absurd (ok_no_err {A = (List ℕ × Bool) × List ℕ} ((encode_utf8 c.0, true), c.1) f never)) h
end_by b bytes f false false e h =
    stuck_here (b ∷ bytes) f (err_same {A = (List ℕ × Bool) × List ℕ} (unexpected (b ∷ bytes)) f h)

end_clear : (bytes : List ℕ) (f : Fault) → end_at bytes ≡ Err f → Clear IsEnd bytes f
unfolding end_at
end_clear [] f h = stuck_here [] f (err_same {A = (List ℕ × Bool) × List ℕ} (unexpected []) f h)
end_clear (b ∷ bytes) f h = end_by b bytes f (b == 34) (b == 92) refl h

-- characters before the rest of a string
chars_before : (chars : List Char) (front : List ℕ) → list_all is_char chars ≡ true →
    ((others : List Char) → text_of (chars ++ others) ≡ after front (text_of others)) → (text : List ℕ) → IsEnd text →
    IsEnd (flat_map char_text chars ++ (text ++ []))
chars_before chars front are means text end = record {
  chars = chars ++ end.chars;
  are = list_all-append is_char chars end.chars ∙ and_from (list_all is_char chars) (list_all is_char end.chars) are
      end.are;
  text = front ++ end.text;
  means = means end.chars ∙ ap (λ o. after front o) end.means;
  spelled =
      ap (λ (x : List ℕ). flat_map char_text chars ++ x) (append-nil text ∙ end.spelled)
      ∙ sym (append_assoc (flat_map char_text chars) (flat_map char_text end.chars) (34 ∷ []))
      ∙ ap (λ (x : List ℕ). x ++ 34 ∷ []) (sym (flat_map-append char_text chars end.chars));
}

behind_chars : (bytes text rest : List ℕ) (f : Fault) → Chars bytes text rest → Clear IsEnd rest f → Clear IsEnd bytes f
behind_chars bytes text rest f c e = clear_in IsEnd IsEnd (flat_map char_text c.chars) [] bytes rest f c.valid
    IsUtf8-nil c.spelled (chars_before c.chars text c.are c.means) e

run_clear : (bytes : List ℕ) (f : Fault) → run_at bytes ≡ Err f → Clear IsEnd bytes f
run_clear bytes f h =
    let c = run_fails bytes f h in
    let front : Chars bytes c.front c.rest = record {
      chars = map plain c.front;
      are = run_all c.front ∙ c.are;
      means = run_means c.front;
      valid = subst IsUtf8 (sym (run_text c.front)) c.valid;
      spelled = c.spelled ∙ ap (λ (x : List ℕ). x ++ c.rest) (sym (run_text c.front));
    } in
    let says : Says (fault.Utf8 (length c.rest)) anywhere c.rest = inl c.cause in
    behind_chars bytes c.front c.rest f front (record {
      spot = anywhere;
      head = [];
      tail = [];
      rest = c.rest;
      more = 34 ∷ [];
      spelled = refl;
      left = ap (λ (g : Fault). left_of g) (sym c.is);
      is = λ next n. subst (λ (x : List ℕ). IsEnd (x ++ 34 ∷ [])) (sym n) space_end;
      valid = IsUtf8-nil;
      completed = quote_utf8;
      unfinished = nothing;
      says = subst (λ (g : Fault). Says g anywhere c.rest) c.is says;
    })

piece_clear : (bytes : List ℕ) (f : Fault) → piece_at bytes ≡ Err f → Clear IsEnd bytes f
unfolding piece_at
piece_clear bytes f h =
    either_failed {B = (List ℕ × Bool) × List ℕ} (run_at bytes)
    (λ run. end_at run.1 >>= λ end. Ok ((run.0 ++ end.0.0, end.0.1), end.1)) f (Clear IsEnd bytes f)
    (λ e. run_clear bytes f e)
    (λ x p g. either_failed {B = (List ℕ × Bool) × List ℕ} (end_at x.1) (λ end. Ok ((x.0 ++ end.0.0, end.0.1), end.1))
    f (Clear IsEnd bytes f)
    (λ e. behind_chars bytes x.0 x.1 f (run_is bytes x.0 x.1 p) (end_clear x.1 f e))
    (λ y q never. absurd (ok_no_err {A = (List ℕ × Bool) × List ℕ} ((x.0 ++ y.0.0, y.0.1), y.1) f never)) g) h

text_turns : (f : Fault) (bytes : List ℕ) → FailedTurns piece_at f bytes → Clear IsEnd bytes f
text_turns f bytes (fails _ e) = piece_clear bytes f e
text_turns f bytes (spent _ none e) = stuck_here bytes f e
text_turns f bytes (later _ ys rest e turns) = behind_chars bytes ys rest f (piece_ok bytes ys true rest e)
    (text_turns f rest turns)

pub text_clear : (bytes : List ℕ) (f : Fault) → text_at bytes ≡ Err f → Clear IsEnd bytes f
unfolding text_at
text_clear bytes f h = text_turns f bytes (turns_err piece_at piece_shrinks (length bytes) f bytes (omega arith) h)

-- a quotation mark before it makes it a string
pub string_end : (bytes : List ℕ) (end : IsEnd bytes) → IsString (34 ∷ bytes) (Some end.text)
string_end bytes end = (end.chars, end.are, ap (λ (x : List ℕ). 34 ∷ x) end.spelled, sym end.means)

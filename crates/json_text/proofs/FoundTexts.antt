-- A string that is read is a string of the grammar.
use Rattle.std.proofs.Common.{◌≡◌, ℕ, suc, ◌==◌, Bool, true, false, cond, List, [], ◌∷◌, ◌++◌, length, take, drop, map, Option, Some, Ok, Err, refl, sym, ap, subst, ◌∙◌, append_assoc, arith}
use Rattle.std.proofs.lemmas.Bool.{eqb-true, and_from}
use Rattle.std.proofs.lemmas.Grind.{flat_map-append}
use Rattle.std.proofs.lemmas.List.{take-append-drop, append-nil}
use Rattle.std.proofs.lemmas.List.Folds.{list_all-append}
use Rattle.std.proofs.lemmas.Str.{IsUtf8-append, IsUtf8-nil}
use Rattle.std.specs.List.{prefix_len, list_all, flat_map}
use Rattle.std.specs.Char.{encode_utf8}
use Rattle.std.specs.Str.{IsUtf8}
use Rattle.std.specs.Str.Lossy.{utf8_valid_len}
use Rattle.json_text.specs.declared.fault.Fault.{Fault}
use Rattle.json_text.specs.declared.fault.Fault.TheVariants as fault
use Rattle.json_text.specs.Strings.{is_plain, Char, plain, is_char, char_text, string_text, after, text_of, IsString}
use Rattle.json_text.specs.Reading.{◌>>=◌, Read, unexpected, escape_at, end_at, run_at, piece_at, text_at}
use Rattle.json_text.proofs.Prefix.{prefix_passes}
use Rattle.json_text.proofs.Fronts.{bound, ok_pair, cons_utf8, valid_utf8}
use Rattle.json_text.proofs.FoundTurns.{Turns, last, more, turns_ok}
use Rattle.json_text.proofs.FoundStrings.{Chars, after_after, escape_ok, run_all, run_means, run_text}

-- what stands behind a piece: nothing, or the quotation mark
abbrev pub closed : Bool → List ℕ → List ℕ
closed again rest = cond again rest (34 ∷ rest)

-- characters and others behind them
joined_chars : (first second third front back : List ℕ) → Chars first front second → Chars second back third →
    Chars first (front ++ back) third
joined_chars first second third front back f g = record {
  chars = f.chars ++ g.chars;
  are = list_all-append is_char f.chars g.chars ∙ and_from (list_all is_char f.chars) (list_all is_char g.chars) f.are
      g.are;
  means = λ others.
      ap (λ (cs : List Char). text_of cs) (append_assoc f.chars g.chars others)
      ∙ f.means (g.chars ++ others)
      ∙ ap (λ (o : Option (List ℕ)). after front o) (g.means others)
      ∙ after_after front back (text_of others);
  valid = subst IsUtf8 (sym (flat_map-append char_text f.chars g.chars))
      (IsUtf8-append (flat_map char_text f.chars) (flat_map char_text g.chars) f.valid g.valid);
  spelled =
      f.spelled
      ∙ ap (λ (t : List ℕ). flat_map char_text f.chars ++ t) g.spelled
      ∙ sym (append_assoc (flat_map char_text f.chars) (flat_map char_text g.chars) third)
      ∙ ap (λ (t : List ℕ). t ++ third) (sym (flat_map-append char_text f.chars g.chars));
}

run_by : (bytes run rest : List ℕ) (t : Bool) (f : Fault) →
    (utf8_valid_len (take (prefix_len is_plain bytes) bytes) == length (take (prefix_len is_plain bytes) bytes)) ≡ t →
    ◌≡◌ {A = Read (List ℕ)} (cond
    t (Ok (take (prefix_len is_plain bytes) bytes, drop (prefix_len is_plain bytes) bytes)) (Err f))
    (Ok (run, rest)) → Chars bytes run rest
run_by bytes run rest false f e h = absurd cc
run_by bytes run rest true f e h =
    let n = prefix_len is_plain bytes in
    let (made, left) = ok_pair (take n bytes) run (drop n bytes) rest h in
    let valid = valid_utf8 (take n bytes) (eqb-true (utf8_valid_len (take n bytes)) (length (take n bytes)) e) in
    record {
      chars = map plain run;
      are = run_all run ∙ prefix_passes is_plain bytes run n refl (sym made);
      means = run_means run;
      valid = subst IsUtf8 (made ∙ sym (run_text run)) valid;
      spelled = sym (take-append-drop n bytes) ∙ ap (λ (t : List ℕ). t ++ drop n bytes) (made ∙ sym (run_text run))
          ∙ ap (λ (t : List ℕ). flat_map char_text (map plain run) ++ t) left;
    }

pub run_is : (bytes run rest : List ℕ) → run_at bytes ≡ Ok (run, rest) → Chars bytes run rest
unfolding run_at
run_is bytes run rest h =
    let n = prefix_len is_plain bytes in
    run_by bytes run rest (utf8_valid_len (take n bytes) == length (take n bytes))
    (fault.Utf8 (length (drop (utf8_valid_len (take n bytes)) bytes))) refl h

chars_as : (bytes t text r rest : List ℕ) → t ≡ text → r ≡ rest → Chars bytes t r → Chars bytes text rest
chars_as bytes t text r rest e f c = rw (← e, ← f) c

no_chars : (bytes : List ℕ) → Chars bytes [] bytes
no_chars bytes = record { chars = []; are = refl; means = run_means []; valid = IsUtf8-nil; spelled = refl }

end_by : (b : ℕ) (bytes text : List ℕ) (again : Bool) (rest : List ℕ) (q s : Bool) → (b == 34) ≡ q → (b == 92) ≡ s →
    ◌≡◌ {A = Read (List ℕ × Bool)} (cond q (Ok (([], false), bytes))
    (cond s (escape_at (suc (length bytes)) bytes >>= λ c. Ok ((encode_utf8 c.0, true), c.1))
    (Err (unexpected (b ∷ bytes))))) (Ok ((text, again), rest)) →
    Chars (b ∷ bytes) text (closed again rest)
end_by b bytes text again rest true s e f h =
    let (both, left) = ok_pair {A = List ℕ × Bool} ([], false) (text, again) bytes rest h in
    let t : [] ≡ text = ap (λ (x : List ℕ × Bool). x.0) both in
    let a : false ≡ again = ap (λ (x : List ℕ × Bool). x.1) both in
    let same : closed again rest ≡ b ∷ bytes = ap (λ (x : Bool). closed x rest) (sym a) ∙ ap (λ (x : List ℕ). 34 ∷ x)
    (sym left) ∙ ap (λ (x : ℕ). x ∷ bytes) (sym (eqb-true b 34 e)) in
    rw (same, ← t) (no_chars (b ∷ bytes))
end_by b bytes text again rest false true e f h =
    let p = bound {B = (List ℕ × Bool) × List ℕ} (escape_at (suc (length bytes)) bytes)
    (λ c. Ok ((encode_utf8 c.0, true), c.1)) ((text, again), rest) h in
    let (both, left) = ok_pair {A = List ℕ × Bool} (encode_utf8 p.value.0, true) (text, again) p.value.1 rest
    p.second in
    let t : encode_utf8 p.value.0 ≡ text = ap (λ (x : List ℕ × Bool). x.0) both in
    let a : true ≡ again = ap (λ (x : List ℕ × Bool). x.1) both in
    let same : closed again rest ≡ p.value.1 = ap (λ (x : Bool). closed x rest) (sym a) ∙ sym left in
    let first : b ≡ 92 = eqb-true b 92 f in
    subst (λ (z : ℕ). Chars (z ∷ bytes) text (closed again rest)) (sym first)
    (chars_as (92 ∷ bytes) (encode_utf8 p.value.0) text p.value.1 (closed again rest) t (sym same)
    (escape_ok (suc (length bytes)) bytes p.value.0 p.value.1 p.first))
end_by b bytes text again rest false false e f h = absurd cc

end_ok : (bytes text : List ℕ) (again : Bool) (rest : List ℕ) → end_at bytes ≡ Ok ((text, again), rest) →
    Chars bytes text (closed again rest)
unfolding end_at
end_ok [] text again rest h = absurd cc
end_ok (b ∷ bytes) text again rest h = end_by b bytes text again rest (b == 34) (b == 92) refl refl h

pub piece_ok : (bytes text : List ℕ) (again : Bool) (rest : List ℕ) → piece_at bytes ≡ Ok ((text, again), rest) →
    Chars bytes text (closed again rest)
unfolding piece_at
piece_ok bytes text again rest h =
    let p = bound (run_at bytes) (λ run. end_at run.1 >>= λ end. Ok ((run.0 ++ end.0.0, end.0.1), end.1))
    ((text, again), rest) h in
    let x = p.value in
    let q = bound (end_at x.1) (λ end. Ok ((x.0 ++ end.0.0, end.0.1), end.1)) ((text, again), rest) p.second in
    let y = q.value in
    let (both, left) = ok_pair {A = List ℕ × Bool} (x.0 ++ y.0.0, y.0.1) (text, again) y.1 rest q.second in
    let t : x.0 ++ y.0.0 ≡ text = ap (λ (x : List ℕ × Bool). x.0) both in
    let a : y.0.1 ≡ again = ap (λ (x : List ℕ × Bool). x.1) both in
    let made = joined_chars bytes x.1 (closed y.0.1 y.1) x.0 y.0.0 (run_is bytes x.0 x.1 p.first)
    (end_ok x.1 y.0.0 y.0.1 y.1 q.first) in
    chars_as bytes (x.0 ++ y.0.0) text (closed y.0.1 y.1) (closed again rest) t (ap (λ (z : Bool). closed z y.1) a
    ∙ ap (λ (z : List ℕ). closed again z) left) made

text_turns : (bytes text rest : List ℕ) → Turns piece_at bytes text rest → Chars bytes text (34 ∷ rest)
text_turns bytes text rest (last _ _ _ e) = piece_ok bytes text false rest e
text_turns bytes whole end (more _ text rest others _ e turns) =
    joined_chars bytes rest (34 ∷ end) text others (piece_ok bytes text true rest e) (text_turns rest others end turns)

-- the rest of a string, behind its quotation mark
pub text_ok : (bytes text rest : List ℕ) → text_at bytes ≡ Ok (text, rest) → Chars bytes text (34 ∷ rest)
unfolding text_at
text_ok bytes text rest h = text_turns bytes text rest (turns_ok piece_at (length bytes) bytes text rest h)

pub record Text (bytes text rest : List ℕ) : Type 0 where
  pub written : List ℕ
  pub is : IsString written (Some text)
  pub valid : IsUtf8 written
  pub spelled : bytes ≡ written ++ rest

-- a whole string
pub string_ok : (bytes text rest : List ℕ) → Chars bytes text (34 ∷ rest) → Text (34 ∷ bytes) text rest
string_ok bytes text rest c = record {
  written = string_text c.chars;
  is = (
    c.chars,
    c.are,
    refl,
    ap (λ (x : List ℕ). Some x) (sym (append-nil text)) ∙ sym (c.means [])
        ∙ ap (λ (x : List Char). text_of x) (append-nil c.chars),
  );
  valid = cons_utf8 34 (flat_map char_text c.chars ++ 34 ∷ []) (omega arith)
      (IsUtf8-append (flat_map char_text c.chars) (34 ∷ []) c.valid (cons_utf8 34 [] (omega arith) IsUtf8-nil));
  spelled = ap (λ (x : List ℕ). 34 ∷ x) (c.spelled ∙ sym (append_assoc (flat_map char_text c.chars) (34 ∷ []) rest));
}

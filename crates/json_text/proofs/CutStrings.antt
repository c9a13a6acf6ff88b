-- What a string that failed says of the bytes before the fault.
use Rattle.std.proofs.Common.{◌≡◌, ℕ, suc, ◌-◌, ◌<◌, ◌==◌, Bool, true, false, cond, List, [], ◌∷◌, ◌++◌, length, take, drop, map, Ok, Err, refl, sym, ap, subst, ◌∙◌, append_assoc, arith}
use Rattle.std.proofs.lemmas.Bool.{eqb-true, eqb-false, and_from, not-true}
use Rattle.std.proofs.lemmas.Grind.{flat_map-append}
use Rattle.std.proofs.lemmas.List.{append-nil, take-append-drop, drop_at, length-take-le, length-drop}
use Rattle.std.proofs.lemmas.List.Folds.{list_all-append}
use Rattle.std.proofs.lemmas.Str.{IsUtf8-nil, utf8_valid_len_le}
use Rattle.std.specs.Prelude.{IsTrue}
use Rattle.std.specs.List.{prefix_len, list_all, flat_map}
use Rattle.std.specs.Char.{encode_utf8}
use Rattle.std.specs.Str.{IsUtf8, IsValidUpTo}
use Rattle.std.specs.Str.Lossy.{utf8_valid_len}
use Rattle.json_text.specs.declared.fault.Fault.{Fault}
use Rattle.json_text.specs.declared.fault.Fault.TheVariants as fault
use Rattle.json_text.specs.Strings.{is_plain, Char, plain, is_char, char_text}
use Rattle.json_text.specs.Faults.{IsQuoted}
use Rattle.json_text.specs.Reading.{◌>>=◌, Read, unexpected, escape_at, end_at, run_at, piece_at, text_at}
use Rattle.json_text.proofs.Prefix.{prefix_passes}
use Rattle.json_text.proofs.Fronts.{ok_pair}
use Rattle.json_text.proofs.Spelled.{stops}
use Rattle.json_text.proofs.Sequences.{two_parts, valid_front, prefix_stops, run_stops}
use Rattle.json_text.proofs.FoundStrings.{run_text, run_all}
use Rattle.json_text.proofs.FoundTexts.{run_is, piece_ok}
use Rattle.json_text.proofs.Machine.{Due, chars as due_chars, escape as due_escape, takes, refuses, react, accepts}
use Rattle.json_text.proofs.AcceptsPlain.{chars_run}
use Rattle.json_text.proofs.Pieces.{piece_shrinks}
use Rattle.json_text.proofs.Cuts.{Alike, Counts, Bars, Cut, within, here, bars_end, bars_byte, either_failed, ok_no_err, err_same, FailedTurns, fails, spent, later, turns_err}
use Rattle.json_text.proofs.CutEscapes.{IsEscape, a_string, escape_err}

-- the rest of a string, with the quotation mark behind it
abbrev pub IsRest : List ℕ → Type 0
IsRest text = (chars : List Char) × IsTrue (list_all is_char chars) × (text ≡ flat_map char_text chars ++ 34 ∷ [])

quote_alone : IsRest (34 ∷ [])
quote_alone = ([], refl, refl)

escape_rest : (text : List ℕ) → IsEscape text → IsRest ([] ++ (text ++ 34 ∷ []))
escape_rest text (char, is, e) =
    (char ∷ [], rw is refl, ap (λ (x : List ℕ). x ++ 34 ∷ []) (e ∙ sym (append-nil (char_text char))))

chars_refuse : (b : ℕ) → (b == 34) ≡ false → (b == 92) ≡ false → is_plain b ≡ false → react due_chars b ≡ refuses
chars_refuse b q s p =
    ap (λ (t : Bool). cond t (takes [])
    (cond (b == 92) (takes (due_escape ∷ due_chars ∷ [])) (cond (is_plain b) (takes (due_chars ∷ [])) refuses))) q
    ∙ ap (λ (t : Bool). cond t (takes (due_escape ∷ due_chars ∷ []))
    (cond (is_plain b) (takes (due_chars ∷ [])) refuses)) s
    ∙ ap (λ (t : Bool). cond t (takes (due_chars ∷ [])) refuses) p

end_by : (b : ℕ) (bytes : List ℕ) (f : Fault) (q s : Bool) → is_plain b ≡ false → (b == 34) ≡ q → (b == 92) ≡ s →
    ◌≡◌ {A = Read (List ℕ × Bool)} (cond q (Ok (([], false), bytes))
    (cond s (escape_at (suc (length bytes)) bytes >>= λ c. Ok ((encode_utf8 c.0, true), c.1))
    (Err (unexpected (b ∷ bytes))))) (Err f) → Cut IsRest a_string 0 (b ∷ bytes) f
end_by b bytes f true s p d e h = absurd cc
end_by b bytes f false true p d e h =
    either_failed {B = (List ℕ × Bool) × List ℕ} (escape_at (suc (length bytes)) bytes)
    (λ c. Ok ((encode_utf8 c.0, true), c.1)) f (Cut IsRest a_string 0 (b ∷ bytes) f)
    (λ g. within IsEscape IsRest a_string a_string 0 0 [] (34 ∷ []) (b ∷ bytes)
    (92 ∷ bytes) f IsUtf8-nil (ap (λ (x : ℕ). x ∷ bytes) (eqb-true b 92 e)) escape_rest
    (λ r k stack. (r, stack, k, λ x a. refl)) (escape_err (suc (length bytes)) bytes f refl g))
    (λ c p never. absurd (ok_no_err {A = (List ℕ × Bool) × List ℕ} ((encode_utf8 c.0, true), c.1) f never)) h
end_by b bytes f false false p d e h =
    here IsRest a_string 0 (b ∷ bytes) (34 ∷ []) f (err_same {A = (List ℕ × Bool) × List ℕ} (unexpected (b ∷ bytes)) f
    h) quote_alone (λ r stack. bars_byte due_chars b bytes stack (chars_refuse b d e p))

end_err : (bytes : List ℕ) (f : Fault) → stops is_plain bytes ≡ true → end_at bytes ≡ Err f →
    Cut IsRest a_string 0 bytes f
unfolding end_at
end_err [] f s h = here IsRest a_string 0 [] (34 ∷ []) f (err_same {A = (List ℕ × Bool) × List ℕ} (unexpected []) f h)
    quote_alone (λ r stack. bars_end due_chars stack refl)
end_err (b ∷ bytes) f s h = end_by b bytes f (b == 34) (b == 92) (not-true (is_plain b) s) refl refl h

all_front : (p : ℕ → Bool) (front back : List ℕ) → list_all p (front ++ back) ≡ true → list_all p front ≡ true
all_front p [] back h = refl
all_front p (b ∷ front) back h =
    let k = two_parts (p b) (list_all p (front ++ back)) h in
    let others = all_front p front back k.1 in
    rw (k.0, others) refl

-- a run that isn't UTF-8: its longest front that is, and what stands behind that
pub record RunFails (bytes : List ℕ) (f : Fault) : Type 0 where
  pub front : List ℕ
  pub rest : List ℕ
  pub spelled : bytes ≡ front ++ rest
  pub are : list_all is_plain front ≡ true
  pub valid : IsUtf8 front
  pub is : fault.Utf8 (length rest) ≡ f
  pub cause : IsValidUpTo rest 0

run_by : (bytes : List ℕ) (f : Fault) (t : Bool) →
    (utf8_valid_len (take (prefix_len is_plain bytes) bytes) == length (take (prefix_len is_plain bytes) bytes)) ≡ t →
    ◌≡◌ {A = Read (List ℕ)} (cond
    t (Ok (take (prefix_len is_plain bytes) bytes, drop (prefix_len is_plain bytes) bytes))
    (Err (fault.Utf8 (length (drop (utf8_valid_len (take (prefix_len is_plain bytes) bytes)) bytes))))) (Err f) →
    RunFails bytes f
run_by bytes f true e h = absurd cc
run_by bytes f false e h =
    let n = prefix_len is_plain bytes in
    let run = take n bytes in
    let valid = utf8_valid_len run in
    let le = utf8_valid_len_le run in
    let ne = eqb-false valid (length run) e in
    let front = take valid run in
    let bad = drop valid run in
    let behind = drop n bytes in
    let whole : front ++ bad ≡ run = take-append-drop valid run in
    let front_len : length front ≡ valid = length-take-le valid run le in
    let bad_len : length bad ≡ length run - valid = length-drop valid run in
    let some : 0 < length bad = omega arith in
    let spelled : bytes ≡ front ++ (bad ++ behind) = sym (take-append-drop n bytes) ∙ ap (λ (x : List ℕ). x ++ behind)
    (sym whole) ∙ append_assoc front bad behind in
    let plain_run : list_all is_plain (front ++ bad) ≡ true = subst (λ (x : List ℕ). list_all is_plain x ≡ true)
    (sym whole) (prefix_passes is_plain bytes run n refl refl) in
    let is_valid : utf8_valid_len (front ++ bad) ≡ length front = ap (λ (x : List ℕ). utf8_valid_len x) whole
    ∙ sym front_len in
    let left : drop valid bytes ≡ bad ++ behind = ap (λ (x : List ℕ). drop valid x) spelled
    ∙ drop_at front (bad ++ behind) valid front_len in
    record {
      front = front;
      rest = bad ++ behind;
      spelled = spelled;
      are = all_front is_plain front bad plain_run;
      valid = valid_front run;
      is = ap (λ (x : List ℕ). fault.Utf8 (length x)) (sym left)
          ∙ err_same {A = List ℕ × List ℕ} (fault.Utf8 (length (drop valid bytes))) f h;
      cause = run_stops front bad behind is_valid some (prefix_stops is_plain bytes);
    }

pub run_fails : (bytes : List ℕ) (f : Fault) → run_at bytes ≡ Err f → RunFails bytes f
unfolding run_at
run_fails bytes f h = run_by bytes f (utf8_valid_len (take (prefix_len is_plain bytes) bytes) == length
    (take (prefix_len is_plain bytes) bytes)) refl h

run_cut : (bytes front rest : List ℕ) → bytes ≡ front ++ rest → list_all is_plain front ≡ true → IsUtf8 front →
    Cut IsRest a_string 0 bytes (fault.Utf8 (length rest))
run_cut bytes front rest spelled are valid = record {
  front = front;
  rest = rest;
  others = 34 ∷ [];
  spelled = spelled;
  left = refl;
  is = (map plain front, run_all front ∙ are, ap (λ (x : List ℕ). x ++ 34 ∷ []) (sym (run_text front)));
  valid = valid;
  cause = tt;
  stuck = λ r k stack others a. absurd k;
}

run_err : (bytes : List ℕ) (f : Fault) → run_at bytes ≡ Err f → Cut IsRest a_string 0 bytes f
run_err bytes f h =
    let c = run_fails bytes f h in
    subst (λ (g : Fault). Cut IsRest a_string 0 bytes g) c.is (run_cut bytes c.front c.rest c.spelled c.are c.valid)

-- characters before the rest of a string
more_chars : (chars : List Char) → list_all is_char chars ≡ true → (text : List ℕ) → IsRest text →
    IsRest (flat_map char_text chars ++ (text ++ []))
more_chars chars h text (others, are, e) = (
  chars ++ others,
  list_all-append is_char chars others ∙ and_from (list_all is_char chars) (list_all is_char others) h are,
  ap (λ (x : List ℕ). flat_map char_text chars ++ x) (append-nil text ∙ e)
      ∙ sym (append_assoc (flat_map char_text chars) (flat_map char_text others) (34 ∷ []))
      ∙ ap (λ (x : List ℕ). x ++ 34 ∷ []) (sym (flat_map-append char_text chars others)),
)

run_stop_by : (bytes run rest : List ℕ) (f : Fault) (t : Bool) →
    ◌≡◌ {A = Read (List ℕ)} (cond
    t (Ok (take (prefix_len is_plain bytes) bytes, drop (prefix_len is_plain bytes) bytes)) (Err f))
    (Ok (run, rest)) →
    stops is_plain rest ≡ true
run_stop_by bytes run rest f true h =
    let (made, left) = ok_pair (take (prefix_len is_plain bytes) bytes) run (drop (prefix_len is_plain bytes) bytes)
    rest h in
    subst (λ (x : List ℕ). stops is_plain x ≡ true) left (prefix_stops is_plain bytes)
run_stop_by bytes run rest f false h = absurd cc

-- a run ends where no plain character goes on
run_stop : (bytes run rest : List ℕ) → run_at bytes ≡ Ok (run, rest) → stops is_plain rest ≡ true
unfolding run_at
run_stop bytes run rest h =
    let n = prefix_len is_plain bytes in
    run_stop_by bytes run rest (fault.Utf8 (length (drop (utf8_valid_len (take n bytes)) bytes)))
    (utf8_valid_len (take n bytes) == length (take n bytes)) h

-- characters are gone over
over_chars : (cs : List Char) → list_all is_char cs ≡ true → (f : Fault) (inner : List ℕ) (r : ℕ) → Counts f 0 r →
    (stack : List Due) →
    (q : ℕ) × (more : List Due) × Counts f 0 q × ((x : List ℕ) → Alike inner x → accepts (flat_map char_text cs ++ x)
    (a_string r ++ stack) ≡ accepts x (a_string q ++ more))
over_chars cs are f inner r k stack = (r, stack, k, λ x a. chars_run cs x stack are)

piece_err : (bytes : List ℕ) (f : Fault) → piece_at bytes ≡ Err f → Cut IsRest a_string 0 bytes f
unfolding piece_at
piece_err bytes f h =
    either_failed {B = (List ℕ × Bool) × List ℕ} (run_at bytes)
    (λ run. end_at run.1 >>= λ end. Ok ((run.0 ++ end.0.0, end.0.1), end.1)) f (Cut IsRest a_string 0 bytes f)
    (λ e. run_err bytes f e)
    (λ x p g. either_failed {B = (List ℕ × Bool) × List ℕ} (end_at x.1) (λ end. Ok ((x.0 ++ end.0.0, end.0.1), end.1))
    f (Cut IsRest a_string 0 bytes f)
    (λ e. let c = run_is bytes x.0 x.1 p in
    within IsRest IsRest a_string a_string 0 0 (flat_map char_text c.chars) [] bytes x.1 f c.valid c.spelled
    (more_chars c.chars c.are) (over_chars c.chars c.are f x.1) (end_err x.1 f (run_stop bytes x.0 x.1 p) e))
    (λ y q never. absurd (ok_no_err {A = (List ℕ × Bool) × List ℕ} ((x.0 ++ y.0.0, y.0.1), y.1) f never)) g) h

text_turns : (f : Fault) (bytes : List ℕ) → FailedTurns piece_at f bytes → Cut IsRest a_string 0 bytes f
text_turns f bytes (fails _ e) = piece_err bytes f e
text_turns f bytes (spent _ none e) =
    here IsRest a_string 0 bytes (34 ∷ []) f e quote_alone
    (λ r stack. subst (λ (x : List ℕ). Bars (due_chars ∷ stack) x) (sym none) (bars_end due_chars stack refl))
text_turns f bytes (later _ ys rest e turns) =
    let c = piece_ok bytes ys true rest e in
    within IsRest IsRest a_string a_string 0 0 (flat_map char_text c.chars) [] bytes rest f c.valid c.spelled
    (more_chars c.chars c.are) (over_chars c.chars c.are f rest) (text_turns f rest turns)

pub text_err : (bytes : List ℕ) (f : Fault) → text_at bytes ≡ Err f → Cut IsRest a_string 0 bytes f
unfolding text_at
text_err bytes f h = text_turns f bytes (turns_err piece_at piece_shrinks (length bytes) f bytes (omega arith) h)

-- a quotation mark before it makes it a string
pub rest_quoted : (text : List ℕ) → IsRest text → IsQuoted (34 ∷ text)
rest_quoted text (chars, are, e) = (chars, are, ap (λ (x : List ℕ). 34 ∷ x) e)

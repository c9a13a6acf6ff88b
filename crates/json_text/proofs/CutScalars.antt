-- What a value without brackets that isn't read says of the bytes before the fault and at it.
use Rattle.std.proofs.Common.{◌≡◌, ℕ, inl, inr, true, false, List, [], ◌∷◌, length, drop, map, Result, Ok, Err, refl, sym, ap, subst, ◌∙◌, arith}
use Rattle.std.proofs.lemmas.Bool.Decides.{nat_tests}
use Rattle.std.proofs.lemmas.List.{append-nil}
use Rattle.std.proofs.lemmas.Str.{IsUtf8-nil}
use Rattle.std.specs.Prelude.{nat_lt}
use Rattle.std.specs.List.{list_all}
use Rattle.std.specs.Str.{IsUtf8}
use Rattle.doc_model.specs.declared.node.Node.{Node}
use Rattle.doc_model.specs.declared.node.Node.TheVariants as node
use Rattle.json_text.specs.declared.fault.Fault.{Fault}
use Rattle.json_text.specs.declared.fault.Fault.TheVariants as fault
use Rattle.json_text.specs.declared.lead.Lead.{Lead}
use Rattle.json_text.specs.declared.lead.Lead.TheVariants as lead
use Rattle.json_text.specs.Grammar.{null_text, true_text, false_text}
use Rattle.json_text.specs.Faults.{IsNumeral, IsQuoted, IsPlainValue, BracketHere}
use Rattle.json_text.specs.Reading.{◌>>=◌, unexpected, word_at, text_at, number_at, lead_by, lead_of, scalar_at, flat_by}
use Rattle.json_text.proofs.Fronts.{word_utf8}
use Rattle.json_text.proofs.FoundValues.{by_first, quote_first, bracket_first, brace_first}
use Rattle.json_text.proofs.Spelled.{byte_here}
use Rattle.json_text.proofs.Machine.{Due, byte, value, chars as due_chars, takes, react, taken}
use Rattle.json_text.proofs.Cuts.{left_of, Cause, Counts, counts_none, Bars, Cut, within, here, cut_as, bars_end, bars_byte, either_failed, ok_no_err, err_same, spelling, word_err}
use Rattle.json_text.proofs.CutNumbers.{a_value, number_err}
use Rattle.json_text.proofs.CutEscapes.{a_string}
use Rattle.json_text.proofs.CutStrings.{IsRest, text_err, rest_quoted}

pub true_first : (b : ℕ) → lead_by b ≡ lead.True → b ≡ 116
true_first b h = grind (arith, nat_tests)

pub false_first : (b : ℕ) → lead_by b ≡ lead.False → b ≡ 102
false_first b h = grind (arith, nat_tests)

pub null_first : (b : ℕ) → lead_by b ≡ lead.Null → b ≡ 110
null_first b h = grind (arith, nat_tests)

pub word_tail : (w : ℕ) (word bytes rest : List ℕ) (f : Fault) → bytes ≡ w ∷ rest → word_at (w ∷ word) bytes ≡ Err f →
    word_at word rest ≡ Err f
unfolding word_at
word_tail w word bytes rest f e h =
    ap (λ (r : Result (List ℕ) Fault). r >>= λ x. word_at word x) (sym (byte_here w rest))
    ∙ ap (λ (y : List ℕ). word_at (w ∷ word) y) (sym e) ∙ h

-- a word fails behind its first byte
word_cut : (room first : ℕ) (word bytes : List ℕ) (f : Fault) → IsUtf8 (first ∷ []) → bytes ≡ first ∷ drop 1 bytes →
    IsPlainValue (first ∷ word) →
    list_all (λ b. nat_lt b 128) word ≡ true →
    ((r : ℕ) → react (value r) first ≡ takes (map byte word)) → word_at (first ∷ word) bytes ≡ Err f →
    Cut IsPlainValue a_value room bytes f
word_cut room first word bytes f valid spelled is small takes_it h =
    within (λ text. text ≡ word) IsPlainValue a_value (spelling word) room room (first ∷ []) [] bytes (drop 1 bytes) f
    valid spelled
    (λ text same. subst (λ (x : List ℕ). IsPlainValue (first ∷ x)) (sym (append-nil text ∙ same)) is)
    (λ r k stack. (r, stack, k, λ x a. taken (value r) first (map byte word) x stack (takes_it r)))
    (word_err room word (drop 1 bytes) f small (word_tail first word bytes (drop 1 bytes) f spelled h))

-- no array or object begins so
abbrev pub IsFlat : Lead → Type 0
IsFlat lead.Bracket = ⊥
IsFlat lead.Brace = ⊥
IsFlat _ = Unit {0}

bars_other : (r : ℕ) (bytes : List ℕ) (stack : List Due) → lead_of bytes ≡ lead.Other → Bars (value r ∷ stack) bytes
bars_other r [] stack e = bars_end (value r) stack refl
bars_other r (b ∷ bytes) stack e = bars_byte (value r) b bytes stack (rw e refl)

pub scalar_err : (room : ℕ) (l : Lead) (bytes : List ℕ) (f : Fault) → IsFlat l → lead_of bytes ≡ l →
    scalar_at l bytes ≡ Err f →
    Cut IsPlainValue a_value room bytes f
unfolding scalar_at
scalar_err room lead.Quote bytes f flat e h =
    either_failed {B = Node × List ℕ} (text_at (drop 1 bytes)) (λ x. Ok (node.Text x.0, x.1))
    f (Cut IsPlainValue a_value room bytes f)
    (λ g. within IsRest IsPlainValue a_value a_string room 0 (34 ∷ []) [] bytes (drop 1 bytes)
    f (word_utf8 (34 ∷ []) refl) (by_first 34 lead.Quote quote_first (λ z. cc) bytes e)
    (λ text is. inr (inr (inr
    (inr (subst (λ (x : List ℕ). IsQuoted (34 ∷ x)) (sym (append-nil text)) (rest_quoted text is))))))
    (λ r k stack. (0, stack, counts_none f room r k, λ x a. taken (value r) 34 (due_chars ∷ []) x stack refl))
    (text_err (drop 1 bytes) f g))
    (λ x p never. absurd (ok_no_err (node.Text x.0, x.1) f never)) h
scalar_err room lead.True bytes f flat e h =
    either_failed {B = Node × List ℕ} (word_at true_text bytes) (λ rest. Ok (node.Bool true, rest))
    f (Cut IsPlainValue a_value room bytes f)
    (λ g. word_cut room 116 (114 ∷ 117 ∷ 101 ∷ []) bytes f (word_utf8 (116 ∷ []) refl)
    (by_first 116 lead.True true_first (λ z. cc) bytes e) (inr (inl refl)) refl (λ r. refl) g)
    (λ x p never. absurd (ok_no_err (node.Bool true, x) f never)) h
scalar_err room lead.False bytes f flat e h =
    either_failed {B = Node × List ℕ} (word_at false_text bytes) (λ rest. Ok (node.Bool false, rest))
    f (Cut IsPlainValue a_value room bytes f)
    (λ g. word_cut room 102 (97 ∷ 108 ∷ 115 ∷ 101 ∷ []) bytes f (word_utf8 (102 ∷ []) refl)
    (by_first 102 lead.False false_first (λ z. cc) bytes e) (inr (inr (inl refl))) refl (λ r. refl) g)
    (λ x p never. absurd (ok_no_err (node.Bool false, x) f never)) h
scalar_err room lead.Null bytes f flat e h =
    either_failed {B = Node × List ℕ} (word_at null_text bytes) (λ rest. Ok (node.Null, rest))
    f (Cut IsPlainValue a_value room bytes f)
    (λ g. word_cut room 110 (117 ∷ 108 ∷ 108 ∷ []) bytes f (word_utf8 (110 ∷ []) refl)
    (by_first 110 lead.Null null_first (λ z. cc) bytes e) (inl refl) refl (λ r. refl) g)
    (λ x p never. absurd (ok_no_err (node.Null, x) f never)) h
scalar_err room lead.Number bytes f flat e h =
    either_failed {B = Node × List ℕ} (number_at bytes) (λ x. Ok (node.Num x.0, x.1))
    f (Cut IsPlainValue a_value room bytes f)
    (λ g. cut_as IsNumeral IsPlainValue a_value room bytes f (λ text is. inr (inr (inr (inl is))))
    (number_err room bytes f e g)) (λ x p never. absurd (ok_no_err (node.Num x.0, x.1) f never)) h
scalar_err room lead.Brace bytes f flat e h = absurd flat
scalar_err room lead.Bracket bytes f flat e h = absurd flat
scalar_err room lead.Other bytes f flat e h =
    here IsPlainValue a_value room bytes null_text f (err_same {A = Node × List ℕ} (unexpected bytes) f h) (inl refl)
    (λ r stack. bars_other r bytes stack e)

-- ---- a bracket where none may stand

bars_bracket : (bytes : List ℕ) (stack : List Due) → BracketHere bytes → Bars (value 0 ∷ stack) bytes
bars_bracket bytes stack (rest, inl e) = subst (λ (x : List ℕ). Bars (value 0 ∷ stack) x) (sym e)
    (bars_byte (value 0) 91 rest stack refl)
bars_bracket bytes stack (rest, inr e) = subst (λ (x : List ℕ). Bars (value 0 ∷ stack) x) (sym e)
    (bars_byte (value 0) 123 rest stack refl)

depth_cut : (bytes : List ℕ) (f : Fault) → BracketHere bytes → fault.Depth (length bytes) ≡ f →
    Cut IsPlainValue a_value 0 bytes f
depth_cut bytes f b e = record {
  front = [];
  rest = bytes;
  others = null_text;
  spelled = refl;
  left = ap (λ (g : Fault). left_of g) (sym e);
  is = inl refl;
  valid = IsUtf8-nil;
  cause = subst (λ (g : Fault). Cause g bytes) e b;
  stuck = λ r k stack.
      let none : r ≡ 0 = subst (λ (g : Fault). Counts g 0 r) (sym e) k in
      subst (λ (q : ℕ). Bars (value q ∷ stack) bytes) (sym none) (bars_bracket bytes stack b);
}

pub flat_err : (l : Lead) (bytes : List ℕ) (f : Fault) → lead_of bytes ≡ l → flat_by l bytes ≡ Err f →
    Cut IsPlainValue a_value 0 bytes f
unfolding flat_by
flat_err lead.Bracket bytes f e h =
    depth_cut bytes f (drop 1 bytes, inl (by_first 91 lead.Bracket bracket_first (λ z. cc) bytes e))
    (err_same {A = Node × List ℕ} (fault.Depth (length bytes)) f h)
flat_err lead.Brace bytes f e h =
    depth_cut bytes f (drop 1 bytes, inr (by_first 123 lead.Brace brace_first (λ z. cc) bytes e))
    (err_same {A = Node × List ℕ} (fault.Depth (length bytes)) f h)
flat_err lead.Quote bytes f e h = scalar_err 0 lead.Quote bytes f tt e h
flat_err lead.True bytes f e h = scalar_err 0 lead.True bytes f tt e h
flat_err lead.False bytes f e h = scalar_err 0 lead.False bytes f tt e h
flat_err lead.Null bytes f e h = scalar_err 0 lead.Null bytes f tt e h
flat_err lead.Number bytes f e h = scalar_err 0 lead.Number bytes f tt e h
flat_err lead.Other bytes f e h = scalar_err 0 lead.Other bytes f tt e h

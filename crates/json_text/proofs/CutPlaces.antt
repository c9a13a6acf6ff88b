-- What a text that isn't read says of the place of its fault.
use Rattle.std.proofs.Common.{◌≡◌, ℕ, suc, ◌+◌, ◌-◌, ◌<◌, ◌≤◌, ◌⊎◌, inl, inr, true, false, List, [], ◌∷◌, ◌++◌, length, take, drop, Err, refl, sym, ap, subst, ◌∙◌, append_assoc, arith}
use Rattle.std.proofs.lemmas.List.{length-append, take_at, drop_at}
use Rattle.std.specs.Str.{IsUtf8, IsValidUpTo}
use Rattle.json_text.specs.declared.fault.Fault.{Fault}
use Rattle.json_text.specs.declared.fault.Fault.TheVariants as fault
use Rattle.json_text.specs.Grammar.{Padded}
use Rattle.json_text.specs.Faults.{IsSpelled, IsGrammatical, BeginsWithin, BracketHere, IsPlace, FaultAt}
use Rattle.text_prefixes.specs.Prefixes.{IsLongestPrefix}
use Rattle.text_prefixes.proofs.PrefixLemmas.{longest_by_one_more}
use Rattle.json_text.specs.Answers.{placed}
use Rattle.json_text.specs.Reading.{text_read}
use Rattle.json_text.proofs.Sequences.{valid_here}
use Rattle.json_text.proofs.AcceptsValues.{text_taken}
use Rattle.json_text.proofs.Cuts.{left_of, Alike, alike_same, Counts, Cut}
use Rattle.json_text.proofs.CutValues.{a_text, text_by}
use Rattle.json_text.proofs.Clears.{Clear}
use Rattle.json_text.proofs.ClearValues.{text_clears}
use Rattle.json_text.proofs.ClearPlaces.{IsSomeText, clear_there, not_utf8, depth_due, out_of_range}

place_of_cut : (depth : ℕ) (bytes : List ℕ) (f : Fault) (c : Cut (Padded (IsSpelled depth)) a_text depth bytes f) →
    (length bytes - left_of f ≡ length c.front)
place_of_cut depth bytes f c = let l = ap (λ (x : List ℕ). length x) c.spelled in
    omega (arith, c.left, l, length-append c.front c.rest)

front_of_cut : (bytes : List ℕ) (f : Fault) (c : Cut (Padded (IsSpelled 128)) a_text 128 bytes f) →
    take (length bytes - left_of f) bytes ≡ c.front
front_of_cut bytes f c = ap (λ (n : ℕ). take n bytes) (place_of_cut 128 bytes f c)
    ∙ ap (λ (x : List ℕ). take (length c.front) x) c.spelled ∙ take_at c.front c.rest (length c.front) refl

valid_before : (bytes : List ℕ) (f : Fault) (c : Cut (Padded (IsSpelled 128)) a_text 128 bytes f) →
    IsUtf8 (take (length bytes - left_of f) bytes)
valid_before bytes f c = subst IsUtf8 (sym (front_of_cut bytes f c)) c.valid

is_place : (bytes : List ℕ) (f : Fault) → Cut (Padded (IsSpelled 128)) a_text 128 bytes f → Clear IsSomeText bytes f →
    IsPlace bytes (length bytes - left_of f)
is_place bytes f c d = (
  omega arith,
  valid_before bytes f c,
  (c.others, subst (λ (x : List ℕ). Padded (IsSpelled 128) (x ++ c.others)) (sym (front_of_cut bytes f c)) c.is),
  clear_there bytes f d,
)

rest_of_cut : (depth : ℕ) (bytes : List ℕ) (f : Fault) (c : Cut (Padded (IsSpelled depth)) a_text depth bytes f) →
    drop (length bytes - left_of f) bytes ≡ c.rest
rest_of_cut depth bytes f c = ap (λ (n : ℕ). drop n bytes) (place_of_cut depth bytes f c)
    ∙ ap (λ (x : List ℕ). drop (length c.front) x) c.spelled ∙ drop_at c.front c.rest (length c.front) refl

up_from : (depth : ℕ) (bytes : List ℕ) (f : Fault) (c : Cut (Padded (IsSpelled depth)) a_text depth bytes f) →
    IsValidUpTo bytes (length bytes - left_of f) → IsValidUpTo c.rest 0
up_from depth bytes f c v =
    valid_here c.front c.rest c.valid (subst (λ (x : List ℕ). IsValidUpTo x (length c.front)) c.spelled
    (subst (λ (n : ℕ). IsValidUpTo bytes n) (place_of_cut depth bytes f c) v))

-- a text that begins so goes on with no other byte than the one at the fault
begins_no_longer : (bytes : List ℕ) (f : Fault) (c : Cut (Padded (IsSpelled 128)) a_text 128 bytes f) (depth r : ℕ) →
    depth ≤ r → Counts f 128 r →
    length bytes - left_of f < length bytes →
    BeginsWithin depth (take (length bytes - left_of f + 1) bytes) → ⊥
begins_no_longer bytes f c depth r le k lt (more, is) = by c.rest refl
  where
    by : (rest : List ℕ) → c.rest ≡ rest → ⊥
    by [] e =
        let n = place_of_cut 128 bytes f c in
        let l : length bytes ≡ length (c.front ++ c.rest) = ap (λ (x : List ℕ). length x) c.spelled in
        let m = length-append c.front c.rest in
        let none : length c.rest ≡ 0 = ap (λ (x : List ℕ). length x) e in
        omega arith
    by (b ∷ rest) e =
        let n = place_of_cut 128 bytes f c in
        let len : length (c.front ++ b ∷ []) ≡ length bytes - left_of f + 1 = omega
        (arith, length-append c.front (b ∷ []), n) in
        let whole : bytes ≡ (c.front ++ b ∷ []) ++ rest = c.spelled ∙ ap (λ (x : List ℕ). c.front ++ x) e
        ∙ sym (append_assoc c.front (b ∷ []) rest) in
        let front : take (length bytes - left_of f + 1) bytes ≡ c.front ++ b ∷ [] = ap
        (λ (x : List ℕ). take (length bytes - left_of f + 1) x) whole
        ∙ take_at (c.front ++ b ∷ []) rest (length bytes - left_of f + 1) len in
        let text : Padded (IsSpelled depth) (c.front ++ b ∷ more) = subst (λ (x : List ℕ). Padded (IsSpelled depth) x)
        (ap (λ (x : List ℕ). x ++ more) front ∙ append_assoc c.front (b ∷ []) more) is in
        let yes = text_taken depth r le (c.front ++ b ∷ more) text in
        let alike : Alike c.rest (b ∷ more) = subst (λ (x : List ℕ). Alike x (b ∷ more)) (sym e) (more, refl) in
        let never = c.stuck r k [] (b ∷ more) alike in
        let both : true ≡ false = sym yes ∙ never in
        absurd cc

no_text : (bytes : List ℕ) (n : ℕ) (c : Cut (Padded (IsSpelled 128)) a_text 128 bytes (fault.Syntax n)) (depth : ℕ) →
    Padded (IsSpelled depth) bytes →
    ⊥
no_text bytes n c depth is =
    let r = 128 + depth in
    let yes = text_taken depth r (omega arith) (c.front ++ c.rest)
    (subst (λ (x : List ℕ). Padded (IsSpelled depth) x) c.spelled is) in
    let never = c.stuck r (omega arith) [] c.rest (alike_same c.rest) in
    let both : true ≡ false = sym yes ∙ never in
    absurd cc

longest : (bytes : List ℕ) (n : ℕ) (c : Cut (Padded (IsSpelled 128)) a_text 128 bytes (fault.Syntax n)) →
    IsPlace bytes (length bytes - n) → IsLongestPrefix IsGrammatical bytes (length bytes - n)
longest bytes n c (within, _, (more, is), _) =
    let text : IsGrammatical (take (length bytes - n) bytes ++ more) = (128, is) in
    longest_by_one_more IsGrammatical bytes (length bytes - n) within (more, text) (λ lt begun.
    begins_no_longer bytes (fault.Syntax n) c begun.1.0 (128 + begun.1.0) (omega arith) (omega arith) lt
    (begun.0, begun.1.1))

too_deep : (bytes : List ℕ) (n : ℕ) (c : Cut (Padded (IsSpelled 128)) a_text 128 bytes (fault.Depth n)) →
    BeginsWithin 128 (take (length bytes - n + 1) bytes) → ⊥
too_deep bytes n c begins = begins_no_longer bytes (fault.Depth n) c 128 128 (omega arith)
    refl (some c.rest c.cause refl) begins
  where
    some : (rest : List ℕ) → BracketHere rest → c.rest ≡ rest → length bytes - n < length bytes
    some rest (more, is) e =
        let m = place_of_cut 128 bytes (fault.Depth n) c in
        let l : length bytes ≡ length (c.front ++ c.rest) = ap (λ (x : List ℕ). length x) c.spelled in
        let k = length-append c.front c.rest in
        let j : length c.rest ≡ length rest = ap (λ (x : List ℕ). length x) e in
        let positive = one rest more is in
        omega arith
      where
        one : (rest more : List ℕ) → ((rest ≡ 91 ∷ more) ⊎ (rest ≡ 123 ∷ more)) → 0 < length rest
        one rest more (inl is) = let z : length rest ≡ suc (length more) = ap (λ (x : List ℕ). length x) is in
            omega arith
        one rest more (inr is) = let z : length rest ≡ suc (length more) = ap (λ (x : List ℕ). length x) is in
            omega arith

placed_by : (bytes : List ℕ) (f : Fault) → Cut (Padded (IsSpelled 128)) a_text 128 bytes f → Clear IsSomeText bytes f →
    FaultAt bytes (placed (length bytes) f)
placed_by bytes (fault.Syntax n) c d =
    let here = is_place bytes (fault.Syntax n) c d in (
      here,
      longest bytes n c here,
      λ (depth, is). no_text bytes n c depth is,
      λ v. c.cause (up_from 128 bytes (fault.Syntax n) c v),
    )
placed_by bytes (fault.Utf8 n) c d =
    (is_place bytes (fault.Utf8 n) c d, not_utf8 bytes n (valid_before bytes (fault.Utf8 n) c) d)
placed_by bytes (fault.Depth n) c d = (
  is_place bytes (fault.Depth n) c d,
  (depth_due bytes n d, subst BracketHere (sym (rest_of_cut 128 bytes (fault.Depth n) c)) c.cause, too_deep bytes n c),
)
placed_by bytes (fault.Number n) c d = (is_place bytes (fault.Number n) c d, out_of_range bytes n d)

-- what a fault tells of the bytes
pub fault_told : (bytes : List ℕ) (f : Fault) → text_read bytes ≡ Err f → FaultAt bytes (placed (length bytes) f)
unfolding text_read
fault_told bytes f h = placed_by bytes f (text_by 128 bytes f h) (text_clears 128 bytes f h)

-- Where bytes stop being UTF-8, and where a surrogate has no partner.
use Rattle.std.proofs.Common.{◌≡◌, ℕ, zero, suc, ◌+◌, ◌-◌, ◌<◌, ◌≤◌, ◌==◌, inl, inr, Bool, true, false, ◌&&◌, not, cond, List, [], ◌∷◌, ◌++◌, length, take, drop, min, Option, Some, None, refl, sym, ap, subst, ◌∙◌, arith}
use Rattle.std.proofs.lemmas.Bool.{eqb-true, eq-eqb, leb-true, leb-false, ne_eqb}
use Rattle.std.proofs.lemmas.List.{append-nil, length-append, take-append-le, take_at, take_min}
use Rattle.std.proofs.lemmas.Str.{IsUtf8-append, IsUtf8-nil, IsUtf8-from_is_utf8, is_utf8-from_IsUtf8, utf8_valid_len-IsUtf8, utf8_valid_len-IsValidUpTo}
use Rattle.std.specs.Prelude.{nat_le}
use Rattle.std.specs.List.{prefix_len}
use Rattle.std.specs.Str.{IsUtf8, is_utf8, IsValidUpTo}
use Rattle.std.specs.Str.Lossy.{utf8_valid_len, valid_len_up_to}
use Rattle.json_text.specs.Strings.{is_plain, is_high, is_low, pair_value}
use Rattle.json_text.specs.Faults.{LowHere, LoneHere}
use Rattle.json_text.specs.Reading.{pair_with, low_at, char_at}
use Rattle.json_text.proofs.FoundStrings.{Unit4}
use Rattle.json_text.proofs.OnlyStrings.{low_here}
use Rattle.json_text.proofs.Spelled.{stops, cut_front, cut_behind}

-- no longer front is UTF-8
longest_by : (bs : List ℕ) (n k : ℕ) (t s : Bool) → is_utf8 (take (suc n) bs) ≡ t → nat_le k n ≡ s → k ≤ suc n →
    IsUtf8 (take k bs) →
    (k ≤ n → k ≤ valid_len_up_to bs n) → k ≤ cond t (suc n) (valid_len_up_to bs n)
longest_by bs n k true s e f le u ih = le
longest_by bs n k false true e f le u ih = ih (leb-true k n f)
longest_by bs n k false false e f le u ih =
    let gt = leb-false k n f in
    let same : k ≡ suc n = omega arith in
    let is = is_utf8-from_IsUtf8 (take (suc n) bs) (subst (λ (m : ℕ). IsUtf8 (take m bs)) same u) in
    absurd cc

longest_up_to : (bs : List ℕ) (n k : ℕ) → k ≤ n → IsUtf8 (take k bs) → k ≤ valid_len_up_to bs n
longest_up_to bs zero k le u = le
longest_up_to bs (suc n) k le u = longest_by bs n k (is_utf8 (take (suc n) bs)) (nat_le k n) refl refl le
    u (λ below. longest_up_to bs n k below u)

front_by : (bs : List ℕ) (n : ℕ) (t : Bool) → is_utf8 (take (suc n) bs) ≡ t → IsUtf8 (take (valid_len_up_to bs n) bs) →
    IsUtf8 (take (cond t (suc n) (valid_len_up_to bs n)) bs)
front_by bs n true e u = IsUtf8-from_is_utf8 (take (suc n) bs) e
front_by bs n false e u = u

front_up_to : (bs : List ℕ) (n : ℕ) → IsUtf8 (take (valid_len_up_to bs n) bs)
front_up_to bs zero = IsUtf8-nil
front_up_to bs (suc n) = front_by bs n (is_utf8 (take (suc n) bs)) refl (front_up_to bs n)

pub valid_front : (bs : List ℕ) → IsUtf8 (take (utf8_valid_len bs) bs)
unfolding utf8_valid_len
valid_front bs = front_up_to bs (length bs)

valid_longest : (bs : List ℕ) (k : ℕ) → k ≤ length bs → IsUtf8 (take k bs) → k ≤ utf8_valid_len bs
unfolding utf8_valid_len
valid_longest bs k le u = longest_up_to bs (length bs) k le u

-- ---- whether a character begins at the front

pub two_parts : (x y : Bool) → (x && y) ≡ true → (x ≡ true) × (y ≡ true)
two_parts true true h = (refl, refl)
two_parts true false h = absurd cc
two_parts false y h = absurd cc

not_zero : (n : ℕ) → not (n == 0) ≡ true → 0 < n
not_zero zero h = absurd cc
not_zero (suc n) h = omega arith

pub no_character : (bytes : List ℕ) → ((utf8_valid_len bytes == 0) && not (length bytes == 0)) ≡ true →
    IsValidUpTo bytes 0
no_character bytes h =
    let p = two_parts (utf8_valid_len bytes == 0) (not (length bytes == 0)) h in
    let none = eqb-true (utf8_valid_len bytes) 0 p.0 in
    let some = not_zero (length bytes) p.1 in
    record {
      short = some;
      front = IsUtf8-nil;
      longest = λ m gt u.
          let le = valid_longest bytes (min m (length bytes)) (omega arith) (subst IsUtf8 (sym (take_min m bytes)) u) in
          absurd (omega arith);
    }

pub some_character : (bytes : List ℕ) → ((utf8_valid_len bytes == 0) && not (length bytes == 0)) ≡ false →
    IsValidUpTo bytes 0 → ⊥
some_character bytes h v =
    let none = eq-eqb (utf8_valid_len bytes) 0 (utf8_valid_len-IsValidUpTo bytes 0 v) in
    let some : (length bytes == 0) ≡ false = ne_eqb (length bytes) 0 (λ z. let s = v.short in omega arith) in
    let both : ((utf8_valid_len bytes == 0) && not (length bytes == 0)) ≡ true = rw (none, some) refl in
    absurd cc

-- ---- behind bytes that are UTF-8

take_past : (front rest : List ℕ) (m k : ℕ) → m ≡ length front + k → take m (front ++ rest) ≡ front ++ take k rest
take_past [] rest m k e = let same : m ≡ k = omega arith in ap (λ (n : ℕ). take n rest) same
take_past (b ∷ front) rest zero k e = absurd (omega arith)
take_past (b ∷ front) rest (suc m) k e = ap (λ (x : List ℕ). b ∷ x) (take_past front rest m k (omega arith))

pub valid_behind : (front rest : List ℕ) → IsUtf8 front → IsValidUpTo rest 0 →
    IsValidUpTo (front ++ rest) (length front)
valid_behind front rest f v =
    let l = length-append front rest in
    let s = v.short in
    record {
      short = omega arith;
      front = subst IsUtf8 (sym (take_at front rest (length front) refl)) f;
      longest = λ m gt u.
          let k = m - length front in
          let e : m ≡ length front + k = omega arith in
          let some : 0 < k = omega arith in
          v.longest k some (cut_behind front (take k rest) (subst IsUtf8 (take_past front rest m k e) u) f);
    }

pub valid_here : (front rest : List ℕ) → IsUtf8 front → IsValidUpTo (front ++ rest) (length front) → IsValidUpTo rest 0
valid_here front rest f v =
    let l = length-append front rest in
    let s = v.short in
    record {
      short = omega arith;
      front = IsUtf8-nil;
      longest = λ m gt u.
          let more : length front < length front + m = omega arith in
          v.longest (length front + m) more (subst IsUtf8 (sym (take_past front rest (length front + m) m refl))
          (IsUtf8-append front (take m rest) f u));
    }

-- ---- a run of characters that isn't UTF-8

one_plus : (n : ℕ) → 1 + n ≡ suc n
one_plus n = omega arith

stop_step : (p : ℕ → Bool) (x : ℕ) (xs : List ℕ) (b : Bool) → p x ≡ b → stops p (drop (prefix_len p xs) xs) ≡ true →
    stops p (drop (prefix_len p (x ∷ xs)) (x ∷ xs)) ≡ true
stop_step p x xs true e h = rw (e, one_plus (prefix_len p xs)) h
stop_step p x xs false e h = rw e (rw e refl)

-- behind the longest front that passes a test
pub prefix_stops : (p : ℕ → Bool) (xs : List ℕ) → stops p (drop (prefix_len p xs) xs) ≡ true
prefix_stops p [] = refl
prefix_stops p (x ∷ xs) = stop_step p x xs (p x) refl (prefix_stops p xs)

plain_not : (b : ℕ) → not (is_plain b) ≡ true → b < 128
plain_not b h = grind arith

run_front : (bad rest : List ℕ) (k : ℕ) → stops is_plain rest ≡ true → IsUtf8 (bad ++ take k rest) → IsUtf8 bad
run_front bad rest zero s u = subst IsUtf8 (append-nil bad) u
run_front bad [] (suc k) s u = subst IsUtf8 (append-nil bad) u
run_front bad (b ∷ rest) (suc k) s u = cut_front bad b (take k rest) (plain_not b s) u

pub run_stops : (front bad rest : List ℕ) → utf8_valid_len (front ++ bad) ≡ length front → 0 < length bad →
    stops is_plain rest ≡ true →
    IsValidUpTo (bad ++ rest) 0
run_stops front bad rest e some s =
    let l = length-append bad rest in
    let n = length-append front bad in
    let front_is : IsUtf8 front = subst IsUtf8 (ap (λ (k : ℕ). take k (front ++ bad)) e
    ∙ take_at front bad (length front) refl) (valid_front (front ++ bad)) in
    record {
      short = omega arith;
      front = IsUtf8-nil;
      longest = λ m gt u. by m gt u front_is (nat_le m (length bad)) refl;
    }
  where
    by : (m : ℕ) → 0 < m → IsUtf8 (take m (bad ++ rest)) → IsUtf8 front → (t : Bool) → nat_le m (length bad) ≡ t → ⊥
    by m gt u f true h =
        let within = leb-true m (length bad) h in
        let n = length-append front bad in
        let part : IsUtf8 (take m bad) = subst IsUtf8 (take-append-le m bad rest within) u in
        let longer : IsUtf8 (take (length front + m) (front ++ bad)) = subst
        IsUtf8 (sym (take_past front bad (length front + m) m refl)) (IsUtf8-append front (take m bad) f part) in
        let le = valid_longest (front ++ bad) (length front + m) (omega arith) longer in
        omega arith
    by m gt u f false h =
        let past = leb-false m (length bad) h in
        let n = length-append front bad in
        let k = m - length bad in
        let same : m ≡ length bad + k = omega arith in
        let bad_is : IsUtf8 bad = run_front bad rest k s (subst IsUtf8 (take_past bad rest m k same) u) in
        let whole = utf8_valid_len-IsUtf8 (front ++ bad) (IsUtf8-append front bad f bad_is) in
        omega arith

-- ---- surrogates

lone_by : (bytes : List ℕ) (u : ℕ) (behind : List ℕ) (h l : Bool) → Unit4 bytes u behind → is_high u ≡ h →
    is_low u ≡ l →
    cond h (pair_with u (low_at behind)) (cond l None (Some (u, behind))) ≡ None → LoneHere (92 ∷ 117 ∷ bytes)
lone_by bytes u behind true l k e f none = (
  u,
  behind,
  (k.a, k.b, k.c, k.d, k.are, sym k.worth, ap (λ (x : List ℕ). 92 ∷ 117 ∷ x) k.spelled),
  inr (e, λ low. by low),
)
  where
    by : LowHere behind → ⊥
    by (v, more, (a, b, c, d, are, worth, spelled), is) =
        let found : low_at behind ≡ Some (v, more) = rw (spelled, worth)
        (low_here a b c d more are (subst (λ (x : ℕ). is_low x ≡ true) worth is)) in
        let never : Some (pair_value u v, more) ≡ None = ap (λ (o : Option (ℕ × List ℕ)). pair_with u o) (sym found)
        ∙ none in
        absurd cc
lone_by bytes u behind false true k e f none =
    (u, behind, (k.a, k.b, k.c, k.d, k.are, sym k.worth, ap (λ (x : List ℕ). 92 ∷ 117 ∷ x) k.spelled), inl f)
lone_by bytes u behind false false k e f none = absurd cc

pub lone : (bytes : List ℕ) (u : ℕ) (behind : List ℕ) → Unit4 bytes u behind → char_at u behind ≡ None →
    LoneHere (92 ∷ 117 ∷ bytes)
unfolding char_at
lone bytes u behind k none = lone_by bytes u behind (is_high u) (is_low u) k refl refl none

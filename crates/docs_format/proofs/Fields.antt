-- A field that is read is the field that was written, and what was written is read again.
use Rattle.std.proofs.Common.{◌≡◌, ℕ, ◌-◌, ◌^◌, ◌<◌, ◌≤◌, Bool, true, false, cond, nat_lt, ltb}
use Rattle.std.proofs.Common.{List, ◌++◌, length, take, drop, Result, Ok, Err, refl, sym, ap, subst, ◌∙◌}
use Rattle.std.proofs.Common.{append_assoc, arith}
use Rattle.std.specs.Str.{is_utf8}
use Rattle.std.proofs.lemmas.Bool.{and_parts, ltb-true, ltb-false, le-ltb}
use Rattle.std.proofs.lemmas.List.{take_at, drop_at, take-append-drop, length-append, length-take-le}
use Rattle.byteorder.specs.Endian.{big_number, big_bytes}
use Rattle.byteorder.specs.Numbers.{big_from-lt, big_from-take, big_number-reads_back, length-bytes_high_first}
use Rattle.doc_model.specs.Uri.{is_uri}
use Rattle.byte_formats.specs.declared.error.FieldError.{FieldError}
use Rattle.byte_formats.specs.declared.error.FieldError.TheVariants.{Truncated, Invalid}
use Rattle.docs_format.specs.Spelling.{count, text}
use Rattle.byte_formats.specs.Format.{◌>>=◌, Read}
use Rattle.docs_format.specs.Reading.{keeping, wide_at, count_at, bytes_at}
use Rattle.docs_format.specs.Reading.{text_at, uri_at}
use Rattle.docs_format.proofs.Digits.{IsBytes, IsBytes-drop, IsBytes-take, digits_back}
use Rattle.docs_format.proofs.Keeping.{kept}

-- the value of a step that didn't fail
pub bind_ok : {X Y : Type 0} (r : Result X FieldError) (f : X → Result Y FieldError) (y : Y) → (r >>= f) ≡ Ok y
    → (x : X) × (r ≡ Ok x) × (f x ≡ Ok y)
bind_ok (Ok x) f y e = (x, refl, e)
bind_ok (Err fault) f y e = absurd cc

-- a test that didn't fail
pub guard_ok : {X : Type 0} (b : Bool) (fault : FieldError) (x y : X) → cond b (Err fault) (Ok x) ≡ Ok y → (b ≡ false) × (x ≡ y)
guard_ok true fault x y e = absurd cc
guard_ok false fault x y e = (refl, cc)

pub rule_ok : {X : Type 0} (b : Bool) (fault : FieldError) (x y : X) → cond b (Ok x) (Err fault) ≡ Ok y → (b ≡ true) × (x ≡ y)
rule_ok true fault x y e = (refl, cc)
rule_ok false fault x y e = absurd cc

abbrev done : {X : Type 0} → X → Result X FieldError
done x = Ok x

pub ok_is : {X : Type 0} (x y : X) → done x ≡ done y → x ≡ y
ok_is x y e = cc

pub kept_ok : {X : Type 0} (rule : X → Bool) (field_at : List ℕ → Read X) (bytes : List ℕ) (x : X × List ℕ)
    → keeping rule field_at bytes ≡ Ok x → (field_at bytes ≡ Ok x) × (rule x.0 ≡ true)
kept_ok rule field_at bytes x e =
    let a = bind_ok (field_at bytes) (λ f. cond (rule f.0) (Ok f) (Err (Invalid (length bytes)))) x e in
    let b = rule_ok (rule a.0.0) (Invalid (length bytes)) a.0 x a.2 in
    subst (λ y. (field_at bytes ≡ Ok y) × (rule y.0 ≡ true)) b.1 (a.1, b.0)

-- what a reader took from the front
pub record Takes (bytes text rest : List ℕ) : Type 0 where
  pub parts : bytes ≡ text ++ rest
  pub rest_fits : IsBytes rest

pub Takes-then : (a x b y c : List ℕ) → Takes a x b → Takes b y c → Takes a (x ++ y) c
Takes-then a x b y c p q =
    record { parts = p.parts ∙ ap (λ (t : List ℕ). x ++ t) q.parts ∙ sym (append_assoc x y c); rest_fits = q.rest_fits }

-- ---- numbers

pub wide_takes : (width : ℕ) (bytes : List ℕ) (x : ℕ × List ℕ) → IsBytes bytes → wide_at width bytes ≡ Ok x
    → Takes bytes (big_bytes width x.0) x.1 × (x.0 < 256 ^ width)
unfolding wide_at
wide_takes width bytes x fits e =
    let g = guard_ok (ltb (length bytes) width) (Truncated (length bytes)) (big_number width bytes, drop width bytes) x e in
    let long : width ≤ length bytes = ltb-false (length bytes) width g.0 in
    let front : big_bytes width (big_number width bytes) ≡ take width bytes =
    ap (big_bytes width) (sym (big_from-take 0 width width bytes (omega arith)))
    ∙ digits_back width (take width bytes) (length-take-le width bytes long) (IsBytes-take width bytes fits) in
    subst (λ (y : ℕ × List ℕ). Takes bytes (big_bytes width y.0) y.1 × (y.0 < 256 ^ width)) g.1 (
      record {
        parts = sym (take-append-drop width bytes) ∙ ap (λ (t : List ℕ). t ++ drop width bytes)
            (sym front);
        rest_fits = IsBytes-drop width bytes fits;
      },
      big_from-lt 0 width bytes fits,
    )

pub wide_again : (width n : ℕ) (rest : List ℕ) → n < 256 ^ width
    → wide_at width (big_bytes width n ++ rest) ≡ Ok (n, rest)
unfolding wide_at
wide_again width n rest lt =
    let len : length (big_bytes width n) ≡ width = length-bytes_high_first width n in
    let long : nat_lt (length (big_bytes width n ++ rest)) width ≡ false =
    le-ltb (length (big_bytes width n ++ rest)) width (omega (arith, length-append (big_bytes width n) rest, len)) in
    let behind : drop width (big_bytes width n ++ rest) ≡ rest = drop_at (big_bytes width n) rest width len in
    rw (long, big_number-reads_back width n rest lt, behind) refl

pub count_takes : (bytes : List ℕ) (x : ℕ × List ℕ) → IsBytes bytes → count_at bytes ≡ Ok x
    → Takes bytes (count x.0) x.1 × (x.0 < 2 ^ 32)
unfolding count_at count
count_takes bytes x fits e = wide_takes 4 bytes x fits e

pub count_again : (n : ℕ) (rest : List ℕ) → n < 2 ^ 32 → count_at (count n ++ rest) ≡ Ok (n, rest)
unfolding count_at count
count_again n rest lt = wide_again 4 n rest lt

-- ---- texts

bytes_take : (bytes : List ℕ) (x : List ℕ × List ℕ) → IsBytes bytes → bytes_at bytes ≡ Ok x → Takes bytes (text x.0) x.1
unfolding bytes_at
bytes_take bytes x fits e =
    let a =
    bind_ok (count_at bytes)
    (λ len. cond (ltb (length len.1) len.0) (Err (Truncated (length bytes))) (Ok (take len.0 len.1, drop len.0 len.1))) x e in
    let g = guard_ok (ltb (length a.0.1) a.0.0) (Truncated (length bytes)) (take a.0.0 a.0.1, drop a.0.0 a.0.1) x a.2 in
    let first = count_takes bytes a.0 fits a.1 in
    let long : a.0.0 ≤ length a.0.1 = ltb-false (length a.0.1) a.0.0 g.0 in
    let len : length (take a.0.0 a.0.1) ≡ a.0.0 = length-take-le a.0.0 a.0.1 long in
    let second : Takes a.0.1 (take a.0.0 a.0.1) (drop a.0.0 a.0.1) =
    record { parts = sym (take-append-drop a.0.0 a.0.1); rest_fits = IsBytes-drop a.0.0 a.0.1 first.0.rest_fits } in
    let both = Takes-then bytes (count a.0.0) a.0.1 (take a.0.0 a.0.1) (drop a.0.0 a.0.1) first.0 second in
    subst (λ (y : List ℕ × List ℕ). Takes bytes (text y.0) y.1) g.1
    (subst (λ (n : ℕ). Takes bytes (count n ++ take a.0.0 a.0.1) (drop a.0.0 a.0.1)) (sym len) both)

bytes_again : (t rest : List ℕ) → length t < 2 ^ 32 → bytes_at (text t ++ rest) ≡ Ok (t, rest)
unfolding bytes_at
bytes_again t rest lt =
    let regrouped : text t ++ rest ≡ count (length t) ++ (t ++ rest) = append_assoc (count (length t)) t rest in
    let long : nat_lt (length (t ++ rest)) (length t) ≡ false =
    le-ltb (length (t ++ rest)) (length t) (omega (arith, length-append t rest)) in
    ap bytes_at regrouped
    ∙ rw
    (count_again (length t) (t ++ rest) lt, long, take_at t rest (length t) refl, drop_at t rest (length t) refl) refl

pub text_takes : (bytes : List ℕ) (x : List ℕ × List ℕ) → IsBytes bytes → text_at bytes ≡ Ok x
    → Takes bytes (text x.0) x.1 × (is_utf8 x.0 ≡ true)
unfolding text_at
text_takes bytes x fits e =
    let k = kept_ok is_utf8 bytes_at bytes x e in
    (bytes_take bytes x fits k.0, k.1)

pub text_again : (t rest : List ℕ) → length t < 2 ^ 32 → is_utf8 t ≡ true → text_at (text t ++ rest) ≡ Ok (t, rest)
unfolding text_at
text_again t rest lt utf8 = kept is_utf8 bytes_at (text t ++ rest) (t, rest) (bytes_again t rest lt) utf8

pub uri_takes : (bytes : List ℕ) (x : List ℕ × List ℕ) → IsBytes bytes → uri_at bytes ≡ Ok x
    → Takes bytes (text x.0) x.1 × (is_utf8 x.0 ≡ true) × (is_uri x.0 ≡ true)
unfolding uri_at
uri_takes bytes x fits e =
    let k = kept_ok is_uri text_at bytes x e in
    let t = text_takes bytes x fits k.0 in
    (t.0, t.1, k.1)

pub uri_again : (t rest : List ℕ) → length t < 2 ^ 32 → is_utf8 t ≡ true → is_uri t ≡ true
    → uri_at (text t ++ rest) ≡ Ok (t, rest)
unfolding uri_at
uri_again t rest lt utf8 uri = kept is_uri text_at (text t ++ rest) (t, rest) (text_again t rest lt utf8) uri

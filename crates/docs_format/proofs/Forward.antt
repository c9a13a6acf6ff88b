-- Reading goes forward: no fault is before the bytes, and more bytes behind them change nothing but an early end.
use Rattle.std.proofs.Common.{◌≡◌, ℕ, zero, suc, ◌+◌, ◌<◌, ◌≤◌, Bool, true, false, cond, nat_le, nat_lt}
use Rattle.std.proofs.Common.{List, [], ◌∷◌, ◌++◌, length, take, drop, Ok, Err, inl, inr, refl, sym}
use Rattle.std.proofs.Common.{ap, subst}
use Rattle.std.proofs.Common.{◌∙◌, arith}
use Rattle.std.specs.Int.{w128, cast_signed}
use Rattle.std.specs.Str.{is_utf8}
use Rattle.std.proofs.lemmas.Bool.{cases_lt, le-ltb, lt-ltb}
use Rattle.std.proofs.lemmas.List.{drop-append-le, length-append, length-drop, take-append-le}
use Rattle.byteorder.specs.Endian.{big_number}
use Rattle.byteorder.specs.Numbers.{big_from-take}
use Rattle.doc_model.specs.Uri.{is_uri}
use Rattle.byte_formats.specs.declared.error.FieldError.TheVariants.{Truncated, Invalid}
use Rattle.docs_format.specs.Spelling.{is_decimal}
use Rattle.byte_formats.specs.Format.{◌>>=◌, Read}
use Rattle.docs_format.specs.Reading.{bytes_at, collection_at, collections_at, count_at}
use Rattle.docs_format.specs.Reading.{is_next}
use Rattle.byte_formats.specs.Format.{left_of}
use Rattle.docs_format.specs.Reading.{keeping, kind_at, last_of, list_at}
use Rattle.docs_format.specs.Reading.{number_at, text_at, units_at, uri_at, wide_at}

-- what is left, behind a field or from a fault on, is no more than there was
abbrev pub Within : {X : Type 0} → ℕ → Read X → Type 0
Within len (Ok x) = length x.1 ≤ len
Within len (Err fault) = left_of fault ≤ len

-- what was read is read with more bytes behind, and an invalid field keeps its place
abbrev pub Stays : {X : Type 0} → List ℕ → Read X → Read X → Type 0
Stays more (Ok x) longer = longer ≡ Ok (x.0, x.1 ++ more)
Stays more (Err (Truncated left)) longer = Unit {0}
Stays more (Err (Invalid left)) longer = longer ≡ Err (Invalid (left + length more))

-- what so many bytes give, and what they give with more behind
pub record Forward {X : Type 0} (len : ℕ) (more : List ℕ) (short longer : Read X) : Type 0 where
  pub within : Within len short
  pub stays : Stays more short longer

-- ---- one field

gives : {X : Type 0} (len : ℕ) (more : List ℕ) (short longer : Read X) (x : X) (rest : List ℕ)
    → short ≡ Ok (x, rest) → longer ≡ Ok (x, rest ++ more) → length rest ≤ len → Forward len more short longer
gives len more short longer x rest s l h =
    subst (λ r. Forward len more r longer) (sym s) (record { within = h; stays = l })

pub ends_early : {X : Type 0} (len left : ℕ) (more : List ℕ) (short longer : Read X) → short ≡ Err (Truncated left)
    → left ≤ len → Forward len more short longer
ends_early len left more short longer s le =
    subst (λ r. Forward len more r longer) (sym s) (record { within = le; stays = tt })

pub refuses : {X : Type 0} (bytes more : List ℕ) (short longer : Read X) → short ≡ Err (Invalid (length bytes))
    → longer ≡ Err (Invalid (length (bytes ++ more))) → Forward (length bytes) more short longer
refuses bytes more short longer s l =
    subst (λ r. Forward (length bytes) more r longer) (sym s)
    (record { within = omega arith; stays = l ∙ ap (λ n. Err (Invalid n)) (length-append bytes more) })

pub wider : {X : Type 0} (n m : ℕ) (more : List ℕ) (short longer : Read X) → n ≤ m
    → Forward n more short longer → Forward m more short longer
wider n m more (Ok x) longer le f = record { within = omega (arith, f.within); stays = f.stays }
wider n m more (Err fault) longer le f = record { within = omega (arith, f.within); stays = f.stays }

-- a second step, given what the first one left
step_forward : {X Y : Type 0} (len : ℕ) (more : List ℕ) (short longer : Read X) (f g : X × List ℕ → Read Y)
    → Forward len more short longer
    → ((x : X) (rest : List ℕ) → length rest ≤ len → Forward len more (f (x, rest)) (g (x, rest ++ more)))
    → Forward len more (short >>= f) (longer >>= g)
step_forward len more (Ok x) longer f g a each =
    subst (λ l. Forward len more (f x) (l >>= g)) (sym a.stays) (each x.0 x.1 a.within)
step_forward len more (Err (Truncated left)) longer f g a each = record { within = a.within; stays = tt }
step_forward len more (Err (Invalid left)) longer f g a each =
    record { within = a.within; stays = ap (λ l. l >>= g) a.stays }

pub chosen_forward : {X : Type 0} (b : Bool) (len : ℕ) (more : List ℕ) (s t l m : Read X)
    → Forward len more s l → Forward len more t m → Forward len more (cond b s t) (cond b l m)
chosen_forward true len more s t l m a b = a
chosen_forward false len more s t l m a b = b

-- reading these bytes, and these with more behind
abbrev pub IsForward : {X : Type 0} → List ℕ → (List ℕ → Read X) → List ℕ → Type 0
IsForward more read bytes = Forward (length bytes) more (read bytes) (read (bytes ++ more))

pub then_forward : {X Y : Type 0} (more : List ℕ) (read : List ℕ → Read X) (f : X × List ℕ → Read Y) (bytes : List ℕ)
    → IsForward more read bytes
    → ((x : X) (rest : List ℕ) → Forward (length rest) more (f (x, rest)) (f (x, rest ++ more)))
    → Forward (length bytes) more (read bytes >>= f) (read (bytes ++ more) >>= f)
then_forward more read f bytes a each =
    step_forward (length bytes) more (read bytes) (read (bytes ++ more)) f f a
    (λ x rest le. wider (length rest) (length bytes) more (f (x, rest)) (f (x, rest ++ more)) le (each x rest))

pub keeping_forward : {X : Type 0} (more : List ℕ) (rule : X → Bool) (field_at : List ℕ → Read X) (bytes : List ℕ)
    → IsForward more field_at bytes → IsForward more (keeping rule field_at) bytes
keeping_forward {X = X} more rule field_at bytes a =
    let judged : List ℕ → X × List ℕ → Read X = λ all x. cond (rule x.0) (Ok x) (Err (Invalid (length all))) in
    step_forward (length bytes) more (field_at bytes) (field_at (bytes ++ more)) (judged bytes)
    (judged (bytes ++ more)) a
    (λ x rest le. chosen_forward (rule x) (length bytes) more
    (Ok (x, rest)) (Err (Invalid (length bytes))) (Ok (x, rest ++ more)) (Err (Invalid (length (bytes ++ more))))
    (gives (length bytes) more (Ok (x, rest)) (Ok (x, rest ++ more)) x rest refl refl le)
    (refuses bytes more (Err (Invalid (length bytes))) (Err (Invalid (length (bytes ++ more)))) refl refl))

-- a value made of what a step read
pub made_forward : {X Y : Type 0} (more : List ℕ) (make : X → Y) (x : X) (rest : List ℕ)
    → Forward (length rest) more (let r : Read Y = Ok (make x, rest) in r) (Ok (make x, rest ++ more))
made_forward more make x rest =
    gives (length rest) more (Ok (make x, rest)) (Ok (make x, rest ++ more)) (make x) rest refl refl (omega arith)

-- ---- fields

wide_short : (width : ℕ) (bytes : List ℕ) → length bytes < width → wide_at width bytes ≡ Err (Truncated (length bytes))
unfolding wide_at
wide_short width bytes lt =
    let short : nat_lt (length bytes) width ≡ true = lt-ltb (length bytes) width lt in
    rw short refl

wide_long : (width : ℕ) (bytes : List ℕ) → width ≤ length bytes
    → wide_at width bytes ≡ Ok (big_number width bytes, drop width bytes)
unfolding wide_at
wide_long width bytes le =
    let long : nat_lt (length bytes) width ≡ false = le-ltb (length bytes) width le in
    rw long refl

-- the front of bytes says one number, whatever is behind it
same_number : (width : ℕ) (bytes more : List ℕ) → width ≤ length bytes
    → big_number width (bytes ++ more) ≡ big_number width bytes
same_number width bytes more le =
    sym (big_from-take 0 width width (bytes ++ more) (omega arith))
    ∙ ap (big_number width) (take-append-le width bytes more le)
    ∙ big_from-take 0 width width bytes (omega arith)

pub wide_forward : (width : ℕ) (more bytes : List ℕ) → IsForward more (wide_at width) bytes
wide_forward width more bytes =
    elim (cases_lt (length bytes) width) [
      | inl lt ↦ ends_early (length bytes) (length bytes) more (wide_at width bytes) (wide_at width (bytes ++ more))
          (wide_short width bytes lt) (omega arith)
      | inr le ↦
          let same : big_number width (bytes ++ more) ≡ big_number width bytes = same_number width bytes more le in
          let behind : drop width (bytes ++ more) ≡ drop width bytes ++ more = drop-append-le width bytes more le in
          let longer : wide_at width (bytes ++ more) ≡ Ok (big_number width bytes, drop width bytes ++ more) =
          wide_long width (bytes ++ more) (omega (arith, le, length-append bytes more)) ∙ rw (same, behind) refl in
          gives (length bytes) more (wide_at width bytes) (wide_at width (bytes ++ more)) (big_number width bytes)
          (drop width bytes) (wide_long width bytes le) longer (omega (arith, length-drop width bytes))
    ]

pub first_forward : (more bytes : List ℕ) → IsForward more kind_at bytes
unfolding kind_at
first_forward more [] = ends_early 0 0 more (Err (Truncated 0)) (kind_at more) refl (omega arith)
first_forward more (k ∷ rest) =
    gives (suc (length rest)) more (Ok (k, rest)) (Ok (k, rest ++ more)) k rest refl refl (omega arith)

pub count_forward : (more bytes : List ℕ) → IsForward more count_at bytes
unfolding count_at
count_forward = wide_forward 4

units_forward : (more bytes : List ℕ) → IsForward more units_at bytes
unfolding units_at
units_forward more bytes =
    then_forward more (wide_at 16) (λ bits. Ok (cast_signed w128 bits.0, bits.1)) bytes (wide_forward 16 more bytes)
    (λ bits rest. made_forward more (cast_signed w128) bits rest)

pub number_forward : (more bytes : List ℕ) → IsForward more number_at bytes
unfolding number_at
number_forward more bytes = keeping_forward more is_decimal units_at bytes (units_forward more bytes)

-- so many bytes of the rest, of a field with so many bytes from its first byte on
cut_at : ℕ → ℕ → List ℕ → Read (List ℕ)
cut_at len n rest = cond (nat_lt (length rest) n) (Err (Truncated len)) (Ok (take n rest, drop n rest))

cut_forward : (len long_len n : ℕ) (more rest : List ℕ) → length rest ≤ len
    → Forward len more (cut_at len n rest) (cut_at long_len n (rest ++ more))
unfolding cut_at
cut_forward len long_len n more rest le_len =
    elim (cases_lt (length rest) n) [
      | inl lt ↦
          let short : nat_lt (length rest) n ≡ true = lt-ltb (length rest) n lt in
          ends_early len len more (cut_at len n rest) (cut_at long_len n (rest ++ more)) (rw short refl) (omega arith)
      | inr le ↦
          let long : nat_lt (length rest) n ≡ false = le-ltb (length rest) n le in
          let longer : nat_lt (length (rest ++ more)) n ≡ false =
          le-ltb (length (rest ++ more)) n (omega (arith, le, length-append rest more)) in
          let same : take n (rest ++ more) ≡ take n rest = take-append-le n rest more le in
          let behind : drop n (rest ++ more) ≡ drop n rest ++ more = drop-append-le n rest more le in
          gives len more (cut_at len n rest) (cut_at long_len n (rest ++ more)) (take n rest) (drop n rest)
          (rw long refl) (rw (longer, same, behind) refl) (omega (arith, length-drop n rest, le_len))
    ]

bytes_forward : (more bytes : List ℕ) → IsForward more bytes_at bytes
unfolding bytes_at cut_at
bytes_forward more bytes =
    step_forward (length bytes) more (count_at bytes) (count_at (bytes ++ more))
    (λ len. cut_at (length bytes) len.0 len.1) (λ len. cut_at (length (bytes ++ more)) len.0 len.1)
    (count_forward more bytes)
    (λ n rest le. cut_forward (length bytes) (length (bytes ++ more)) n more rest le)

pub text_forward : (more bytes : List ℕ) → IsForward more text_at bytes
unfolding text_at
text_forward more bytes = keeping_forward more is_utf8 bytes_at bytes (bytes_forward more bytes)

pub uri_forward : (more bytes : List ℕ) → IsForward more uri_at bytes
unfolding uri_at
uri_forward more bytes = keeping_forward more is_uri text_at bytes (text_forward more bytes)

-- ---- lists

pub list_forward : {X : Type 0} (more : List ℕ) (item_at : List X → List ℕ → Read X)
    → ((before : List X) (bytes : List ℕ) → IsForward more (item_at before) bytes)
    → (n : ℕ) (before : List X) (bytes : List ℕ) → IsForward more (list_at item_at before n) bytes
unfolding list_at
list_forward more item_at each zero before bytes = made_forward more (λ xs. xs) before bytes
list_forward more item_at each (suc n) before bytes =
    then_forward more (item_at before) (λ item. list_at item_at (before ++ item.0 ∷ []) n item.1) bytes
    (each before bytes)
    (λ item rest. list_forward more item_at each n (before ++ item ∷ []) rest)

pub collections_forward : (more bytes : List ℕ) → IsForward more collections_at bytes
unfolding collections_at collection_at
collections_forward more bytes =
    let item_at : List (List ℕ) → List ℕ → Read (List ℕ) = λ before. collection_at (last_of before) in
    then_forward more (keeping (λ n. nat_le n 64) count_at) (λ n. list_at item_at [] n.0 n.1) bytes
    (keeping_forward more (λ n. nat_le n 64) count_at bytes (count_forward more bytes))
    (λ n rest. list_forward more item_at
    (λ before field. keeping_forward more (is_next (last_of before)) text_at field
    (text_forward more field)) n [] rest)

-- No entry may follow one whose number is the last that fits its field.
use Rattle.std.proofs.Common.{◌≡◌, ◌-◌, ◌^◌, ◌<◌, ℕ, suc, Bool, true, false, ◌||◌, ◌==◌, nat_lt, List, [], ◌∷◌}
use Rattle.std.proofs.Common.{drop, Option, Some, Ok, Err, refl, ap, length, get_or, arith}
use Rattle.std.proofs.lemmas.Bool.{eqb-true, ne_eqb}
use Rattle.byteorder.specs.Endian.{big_number}
use Rattle.docs_format.proofs.Digits.{IsBytes}
use Rattle.docs_format.proofs.Fields.{wide_takes}
use Rattle.docs_format.proofs.Keeping.{unkept}
use Rattle.docs_format.specs.Reading.{keeping, kind_at, wide_at}
use Rattle.byte_formats.specs.Format.{left_of}
use Rattle.byte_formats.specs.declared.error.FieldError.{FieldError}
use Rattle.byte_formats.specs.declared.error.FieldError.TheVariants.{Invalid, Truncated}
use Rattle.journal_bodies.specs.Answers.{entry_of}
use Rattle.journal_bodies.specs.EntryReading.{entry_at, is_expected}
use Rattle.journal_bodies.specs.RootReading.{long_at}

abbrev Past : Option ℕ
Past = Some (2 ^ 64)

-- no number of eight bytes is that great
record IsRefused (bytes : List ℕ) : Type 0 where
  pub error : FieldError
  pub refused : keeping (is_expected Past) long_at bytes ≡ Err error
  pub left : left_of error ≡ length bytes

truncated : (bytes : List ℕ) → nat_lt (length bytes) 8 ≡ true →
    keeping (is_expected Past) long_at bytes ≡ Err (Truncated (length bytes))
unfolding long_at wide_at
truncated bytes short = rw short refl

whole : (bytes : List ℕ) → nat_lt (length bytes) 8 ≡ false → long_at bytes ≡ Ok (big_number 8 bytes, drop 8 bytes)
unfolding long_at wide_at
whole bytes long = rw long refl

small : (bytes : List ℕ) → IsBytes bytes → nat_lt (length bytes) 8 ≡ false → big_number 8 bytes < 2 ^ 64
unfolding wide_at
small bytes fits long = (wide_takes 8 bytes (big_number 8 bytes, drop 8 bytes) fits (rw long refl)).1

refused : (bytes : List ℕ) → IsBytes bytes → IsRefused bytes
refused bytes fits = go (nat_lt (length bytes) 8) refl
  where
    go : (short : Bool) → nat_lt (length bytes) 8 ≡ short → IsRefused bytes
    go true is = record { error = Truncated (length bytes); refused = truncated bytes is; left = refl }
    go false is =
        let low : big_number 8 bytes < 2 ^ 64 = small bytes fits is in
        record {
          error = Invalid (length bytes);
          refused = unkept (is_expected Past) long_at bytes (big_number 8 bytes, drop 8 bytes) (whole bytes is)
              (ne_eqb (big_number 8 bytes) (2 ^ 64) (λ same. absurd (omega (arith, same, low))));
          left = refl;
        }

known_past : (kind : ℕ) (rest : List ℕ) → IsBytes rest → ((kind == 1) || (kind == 2)) ≡ true →
    entry_of Past (kind ∷ rest) ≡ Err 1
unfolding entry_at kind_at
known_past kind rest fits is =
    let no = refused rest fits in
    let place : length (kind ∷ rest) - left_of no.error ≡ 1 = omega (arith, no.left) in
    rw (is, no.refused) (ap (λ (n : ℕ). Err n) place)

unknown_past : (kind : ℕ) (rest : List ℕ) → ((kind == 1) || (kind == 2)) ≡ false →
    entry_of Past (kind ∷ rest) ≡ Err 0
unfolding entry_at kind_at
unknown_past kind rest is =
    let place : length (kind ∷ rest) - length (kind ∷ rest) ≡ 0 = omega arith in
    rw is (ap (λ (n : ℕ). Err n) place)

none_past : entry_of Past [] ≡ Err 0
unfolding entry_at kind_at
none_past = refl

-- there is no byte
pub empty_past : (bytes : List ℕ) → (length bytes == 0) ≡ true → entry_of Past bytes ≡ Err 0
empty_past [] none = none_past
empty_past (b ∷ rest) none = absurd (omega (arith, eqb-true (length (b ∷ rest)) 0 none))

-- the kind is known, so the number is invalid
pub number_past : (bytes : List ℕ) (d : ℕ) → IsBytes bytes → (length bytes == 0) ≡ false →
    ((get_or bytes 0 d == 1) || (get_or bytes 0 d == 2)) ≡ true → entry_of Past bytes ≡ Err 1
number_past [] d fits some known = absurd (cc)
number_past (b ∷ rest) d fits some known = known_past b rest (λ i. fits (suc i)) known

-- the kind is invalid
pub kind_past : (bytes : List ℕ) (d : ℕ) → (length bytes == 0) ≡ false →
    ((get_or bytes 0 d == 1) || (get_or bytes 0 d == 2)) ≡ false → entry_of Past bytes ≡ Err 0
kind_past [] d some unknown = absurd (cc)
kind_past (b ∷ rest) d some unknown = unknown_past b rest unknown

-- Fields that keep a rule, and fields that don't.
use Rattle.std.proofs.Common.{◌≡◌, ℕ, ℤ, ◌-◌, ◌≤◌, Bool, true, false, nat_lt, List, length, take, drop, Ok, Err}
use Rattle.std.proofs.Common.{refl, arith, rules}
use Rattle.std.specs.Prelude.{IsTrue}
use Rattle.std.specs.Int.{w128, cast_signed}
use Rattle.std.proofs.lemmas.Bool.{le-ltb}
use Rattle.std.proofs.lemmas.List.{take_all, length-drop}
use Rattle.byteorder.specs.Endian.{big_number}
use Rattle.std.specs.Str.{IsUtf8, is_utf8}
use Rattle.std.proofs.lemmas.Str.{IsUtf8-from_is_utf8, is_utf8-from_IsUtf8}
use Rattle.byte_formats.specs.declared.error.FieldError.TheVariants.{Invalid}
use Rattle.byte_formats.specs.Format.{Read}
use Rattle.docs_format.specs.Reading.{keeping, text_at, bytes_at, units_at, wide_at}

pub kept : {X : Type 0} (rule : X → Bool) (field_at : List ℕ → Read X) (bytes : List ℕ) (x : X × List ℕ)
    → field_at bytes ≡ Ok x → rule x.0 ≡ true → keeping rule field_at bytes ≡ Ok x
kept rule field_at bytes x e holds = rw (e, holds) refl

pub unkept : {X : Type 0} (rule : X → Bool) (field_at : List ℕ → Read X) (bytes : List ℕ) (x : X × List ℕ)
    → field_at bytes ≡ Ok x → rule x.0 ≡ false → keeping rule field_at bytes ≡ Err (Invalid (length bytes))
unkept rule field_at bytes x e fails = rw (e, fails) refl

not_utf8 : (bytes : List ℕ) → ¬ (IsUtf8 bytes) → is_utf8 bytes ≡ false
not_utf8 bytes no_text = go (is_utf8 bytes) refl
  where
    go : (b : Bool) → is_utf8 bytes ≡ b → b ≡ false
    go true e = absurd (no_text (IsUtf8-from_is_utf8 bytes e))
    go false e = refl

pub text_kept : (bytes text rest : List ℕ) → bytes_at bytes ≡ Ok (text, rest) → IsUtf8 text
    → text_at bytes ≡ Ok (text, rest)
unfolding text_at
text_kept bytes text rest e is = kept is_utf8 bytes_at bytes (text, rest) e (is_utf8-from_IsUtf8 text is)

pub text_unkept : (bytes text rest : List ℕ) → bytes_at bytes ≡ Ok (text, rest) → ¬ (IsUtf8 text)
    → text_at bytes ≡ Err (Invalid (length bytes))
unfolding text_at
text_unkept bytes text rest e is_no = unkept is_utf8 bytes_at bytes (text, rest) e (not_utf8 text is_no)

-- as a read of sixteen bytes and a slice from there on return it
pub units_read : (bytes : List ℕ) (units : ℤ) → 16 ≤ length bytes → units ≡ cast_signed w128 (big_number 16 bytes)
    → units_at bytes ≡ Ok (units, take (length bytes - 16) (drop 16 bytes))
unfolding units_at wide_at
units_read bytes units long e =
    let fits : nat_lt (length bytes) 16 ≡ false = le-ltb (length bytes) 16 long in
    let all : take (length bytes - 16) (drop 16 bytes) ≡ drop 16 bytes =
    take_all (length bytes - 16) (drop 16 bytes) (omega (arith, length-drop 16 bytes)) in
    rw (fits, all, e) refl

pub is_text : (bytes : List ℕ) → IsUtf8 bytes → IsTrue (is_utf8 bytes)
is_text bytes is = rw (is_utf8-from_IsUtf8 bytes is) (search rules)

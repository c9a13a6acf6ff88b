-- Texts among bytes.
use Rattle.std.proofs.Common.{◌≡◌, ℕ, true, false, Bool, List, length, Ok, Err, refl}
use Rattle.std.specs.Str.{IsUtf8, is_utf8}
use Rattle.std.proofs.lemmas.Str.{IsUtf8-from_is_utf8, is_utf8-from_IsUtf8}
use Rattle.byte_formats.specs.declared.error.FieldError.TheVariants.{Invalid}
use Rattle.byte_formats.specs.Fields.{sized_at, text}

not_utf8 : (bytes : List ℕ) → ¬ (IsUtf8 bytes) → is_utf8 bytes ≡ false
not_utf8 bytes no_text = go (is_utf8 bytes) refl
  where
    go : (b : Bool) → is_utf8 bytes ≡ b → b ≡ false
    go true e = absurd (no_text (IsUtf8-from_is_utf8 bytes e))
    go false e = refl

pub text_kept : (bytes t rest : List ℕ) → sized_at bytes ≡ Ok (t, rest) → IsUtf8 t → text.read bytes ≡ Ok (t, rest)
text_kept bytes t rest e is = rw (e, is_utf8-from_IsUtf8 t is) refl

pub text_unkept : (bytes t rest : List ℕ) → sized_at bytes ≡ Ok (t, rest) → ¬ (IsUtf8 t)
    → text.read bytes ≡ Err (Invalid (length bytes))
text_unkept bytes t rest e is_no = rw (e, not_utf8 t is_no) refl

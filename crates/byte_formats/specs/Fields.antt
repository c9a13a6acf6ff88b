-- The fields that files are made of.
use Rattle.std.specs.Prelude.{ℕ, ◌^◌, Bool, true, nat_lt, ◌==◌, List, [], ◌∷◌, ◌++◌, length, take, drop, Some, Ok, Err}
use Rattle.std.specs.Prelude.{if◌then◌else◌}
use Rattle.std.specs.Str.{bytes_eq, is_utf8}
use Rattle.byteorder.specs.Endian.{big_number, big_bytes}
use Rattle.byte_formats.specs.Format.{◌>>=◌, Format, Read, both, fenced, keeping, made, many}
use Rattle.byte_formats.specs.declared.error.FieldError.TheVariants.{Truncated}

unfoldable pub byte_at : List ℕ → Read ℕ
byte_at [] = Err (Truncated 0)
byte_at (b ∷ rest) = Ok (b, rest)

abbrev pub byte : Format ℕ
byte = record { spell = λ b. b ∷ []; fits = λ b. nat_lt b 256; read = byte_at }

unfoldable pub wide_at : ℕ → List ℕ → Read ℕ
wide_at width bytes =
    if nat_lt (length bytes) width then Err (Truncated (length bytes))
    else Ok (big_number width bytes, drop width bytes)

unfoldable pub wide_bytes : ℕ → ℕ → List ℕ
wide_bytes width n = big_bytes width n

-- a number in so many bytes, the highest first
abbrev pub wide : ℕ → Format ℕ
wide width = record { spell = wide_bytes width; fits = λ n. nat_lt n (256 ^ width); read = wide_at width }

-- a count or a length
abbrev pub count : Format ℕ
count = wide 4

unfoldable pub raw_at : ℕ → List ℕ → Read (List ℕ)
raw_at len bytes =
    if nat_lt (length bytes) len then Err (Truncated (length bytes)) else Ok (take len bytes, drop len bytes)

-- so many bytes
abbrev pub raw : ℕ → Format (List ℕ)
raw len = record { spell = λ bytes. bytes; fits = λ bytes. length bytes == len; read = raw_at len }

-- what stands behind its count
abbrev pub counted : {X : Type 0} → (ℕ → Bool) → (X → ℕ) → (ℕ → Format X) → Format X
counted rule size body = made (λ p. p.1) (λ x. Some (size x, x)) (both (keeping rule count) body)

-- a length, and as many bytes
unfoldable pub sized_at : List ℕ → Read (List ℕ)
sized_at bytes = do
  len ← wide_at 4 bytes
  if nat_lt (length len.1) len.0 then Err (Truncated (length bytes)) else Ok (take len.0 len.1, drop len.0 len.1)

abbrev pub sized : Format (List ℕ)
sized = record {
  spell = λ bytes. wide_bytes 4 (length bytes) ++ bytes;
  fits = λ bytes. nat_lt (length bytes)
      (2 ^ 32);
  read = sized_at;
}

abbrev pub text : Format (List ℕ)
text = keeping is_utf8 sized

-- how many values, and each of them
abbrev pub listed : {S X : Type 0} → (ℕ → Bool) → (S → Format X) → (S → X → S) → S → Format (List X)
listed rule item next state = counted rule length (many item next state)

-- fixed bytes
abbrev pub mark : List ℕ → Format (List ℕ)
mark bytes = keeping (bytes_eq bytes) (raw (length bytes))

-- a format behind fixed bytes
abbrev pub behind : {X : Type 0} → List ℕ → Format X → Format X
behind bytes f = made (λ p. p.1) (λ x. Some (bytes, x)) (both (mark bytes) (λ _. f))

-- a value behind the length of its spelling
abbrev pub enclosed : {X : Type 0} → Format X → Format X
enclosed f = counted (λ _. true) (λ x. length (f.spell x)) (λ len. fenced len f)

-- a byte for the kind, and what stands in a value of that kind
abbrev pub tagged : {X : Type 0} → (ℕ → Bool) → (X → ℕ) → (ℕ → Format X) → Format X
tagged known kind body = made (λ p. p.1) (λ x. Some (kind x, x)) (both (keeping known byte) body)

-- Unsigned LEB128: seven bits a byte, the lowest first, and each byte but the last has its highest bit set.
use Rattle.std.specs.Prelude.{ℕ, zero, suc, ◌+◌, ◌*◌, ◌/◌, ◌%◌, ◌-◌, nat_lt, nat_le, ◌==◌, false, Option, Some, None}
use Rattle.std.specs.Prelude.{Err, length}
use Rattle.std.specs.Prelude.{[], if◌then◌else◌}
use Rattle.byte_formats.specs.Format.{Format, both, constant, field, keeping, made}
use Rattle.byte_formats.specs.Fields.{byte}
use Rattle.byte_formats.specs.declared.error.FieldError.TheVariants.{Invalid}

-- how far a number is above a low one
abbrev pub distance : ℕ → ℕ → Option ℕ
distance low n = if nat_le low n then Some (n - low) else None

-- a number that is told by how far it is above a low one
abbrev pub raised : ℕ → Format ℕ → Format ℕ
raised low f = made (λ d. low + d) (distance low) f

-- nothing fits
abbrev pub nothing : {X : Type 0} → Format X
nothing = record { spell = λ _. []; fits = λ _. false; read = λ bytes. Err (Invalid (length bytes)) }

abbrev pub joined : ℕ × ℕ → ℕ
joined p = p.0 % 128 + 128 * p.1

abbrev pub split : ℕ → Option (ℕ × ℕ)
split n = Some ((if nat_lt n 128 then n else 128 + n % 128), n / 128)

-- the bits above those of a byte: none behind a last byte, and else some, so that each number has one spelling
abbrev pub high_bits : Format ℕ → ℕ → Format ℕ
high_bits more low = if nat_lt low 128 then constant 0 (λ n. n == 0) else keeping (λ n. nat_le 1 n) more

-- a number of at most so many bytes
unfoldable pub digits : ℕ → Format ℕ
digits zero = nothing
digits (suc n) = made joined split (both byte (high_bits (digits n)))

-- a number below 2 ^ 35, as one field
unfoldable pub leb : Format ℕ
leb = field (digits 5)

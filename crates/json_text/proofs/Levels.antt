-- A value by how much room there is for brackets.
use Rattle.std.proofs.Common.{◌≡◌, ◌≢◌, ℕ, zero, suc, ◌-◌, List, refl, ap, arith}
use Rattle.json_text.specs.Reading.{value_at, value_by, flat_by, lead_of}

pub value_flat : (room : ℕ) (bytes : List ℕ) → room ≡ 0 → value_at room bytes ≡ flat_by (lead_of bytes) bytes
unfolding value_at
value_flat zero bytes e = refl
value_flat (suc room) bytes e = absurd (omega arith)

one_back : (room : ℕ) → room ≡ suc room - 1
one_back room = omega arith

pub value_nested : (room : ℕ) (bytes : List ℕ) → room ≢ 0 → value_at room bytes ≡ value_by (value_at (room - 1))
    (lead_of bytes) bytes
unfolding value_at
value_nested zero bytes ne = absurd (ne refl)
value_nested (suc room) bytes ne = ap (λ (n : ℕ). value_by (value_at n) (lead_of bytes) bytes) (one_back room)

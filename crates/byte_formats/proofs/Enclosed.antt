-- Values behind their length, and numbers told by their distance.
use Rattle.std.proofs.Common.{◌≡◌, ℕ, ◌+◌, ◌-◌, ◌≤◌, ◌<◌, Bool, true, false, ◌&&◌, cond, nat_le, nat_lt, ◌^◌, ◌==◌}
use Rattle.std.proofs.Common.{length, Some, None}
use Rattle.std.proofs.Common.{refl, ap, arith}
use Rattle.std.proofs.lemmas.Bool.{and_parts, eqb-true, le-leb, leb-true, ltb-true}
use Rattle.byte_formats.specs.Fields.{enclosed}
use Rattle.byte_formats.specs.Format.{Format, fenced, holds, spelled}
use Rattle.byte_formats.specs.Lawful.{Lawful}
use Rattle.byte_formats.specs.Leb.{distance, raised}
use Rattle.byte_formats.proofs.Basic.{counted_lawful}
use Rattle.byte_formats.proofs.Fence.{fenced_lawful}
use Rattle.byte_formats.proofs.Pieces.{made_lawful}
use Rattle.byte_formats.proofs.Steps.{some_is}

pub enclosed_lawful : {X : Type 0} (f : Format X) → Lawful f → Lawful (enclosed f)
enclosed_lawful f F =
    counted_lawful (λ _. true) (λ x. length (f.spell x)) (λ len. fenced len f) (λ len. fenced_lawful len f F)
    (λ len x h. eqb-true (length (f.spell x)) len (and_parts (f.fits x) (length (f.spell x) == len) h).1)

distance_there : (low d : ℕ) → distance low (low + d) ≡ Some d
distance_there low d =
    let small : nat_le low (low + d) ≡ true = le-leb low (low + d) (omega arith) in
    let same : (low + d) - low ≡ d = omega arith in
    rw small (ap (λ (n : ℕ). Some n) same)

distance_back : (low n d : ℕ) → distance low n ≡ Some d → low + d ≡ n
distance_back low n d e = go (nat_le low n) refl e
  where
    go : (b : Bool) → nat_le low n ≡ b → cond b (Some (n - low)) None ≡ Some d → low + d ≡ n
    go true t e =
        let le : low ≤ n = leb-true low n t in
        let same : n - low ≡ d = some_is (n - low) d e in
        omega (arith, le, same)
    go false t e = absurd cc

pub raised_lawful : (low : ℕ) (f : Format ℕ) → Lawful f → Lawful (raised low f)
raised_lawful low f F = made_lawful (λ d. low + d) (distance low) f F (λ d h. distance_there low d) (distance_back low)

pub enclosed_fits : {X : Type 0} (f : Format X) (x : X) → (enclosed f).fits x ≡ true → f.fits x ≡ true
enclosed_fits f x h =
    let a = and_parts (nat_lt (length (f.spell x)) (256 ^ 4) && true)
    (f.fits x && (length (f.spell x) == length (f.spell x))) h in
    (and_parts (f.fits x) (length (f.spell x) == length (f.spell x)) a.1).0

pub enclosed_short : {X : Type 0} (f : Format X) (x : X) → (enclosed f).fits x ≡ true → length (f.spell x) < 2 ^ 32
enclosed_short f x h =
    let a = and_parts (nat_lt (length (f.spell x)) (256 ^ 4) && true)
    (f.fits x && (length (f.spell x) == length (f.spell x))) h in
    ltb-true (length (f.spell x)) (256 ^ 4) (and_parts (nat_lt (length (f.spell x)) (256 ^ 4)) true a.0).0

-- a number that is raised and fits is no lower, and is spelled by its distance
pub raised_spell : (low : ℕ) (f : Format ℕ) (n : ℕ) → (raised low f).fits n ≡ true
    → (low ≤ n) × ((raised low f).spell n ≡ f.spell (n - low)) × (f.fits (n - low) ≡ true)
raised_spell low f n h = go (nat_le low n) refl h
  where
    go : (b : Bool) → nat_le low n ≡ b → holds f.fits (cond b (Some (n - low)) None) ≡ true
        → (low ≤ n) × (spelled f.spell (distance low n) ≡ f.spell (n - low)) × (f.fits (n - low) ≡ true)
    go true t h = (leb-true low n t, rw t refl, h)
    go false t h = absurd cc

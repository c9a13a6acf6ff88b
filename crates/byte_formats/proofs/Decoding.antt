-- What a decoder returns, by its one exact clause.
use Rattle.std.proofs.Common.{◌≡◌, ℕ, ◌≤◌, List, length, Result, Ok, Err, subst}
use Rattle.std.specs.Prelude.{IfErr, IfOk}
use Rattle.byte_formats.specs.declared.error.BytesBad.{BytesBad}
use Rattle.byte_formats.specs.declared.error.BytesBad.TheVariants as bad
use Rattle.byte_formats.specs.declared.error.DecodeError.{DecodeError}
use Rattle.byte_formats.specs.Answers.{Decodes, DecodesBody, DecodesTo, Gives, IsWithin, Returns}
use Rattle.byte_formats.specs.Bodies.{body_of, field_of}
use Rattle.byte_formats.specs.Format.{Format, Read}
use Rattle.byte_formats.specs.Lawful.{IsBytes, Lawful}
use Rattle.byte_formats.specs.Whole.{Spells, all_of, at_place, decoded, place_of}
use Rattle.byte_formats.proofs.Bodies.{bodies_decode_well}
use Rattle.byte_formats.proofs.Wholes.{decodes_well}

module _ {X : Type 0} (f : Format X) (F : Lawful f) (bytes : List ℕ) (result : Result X BytesBad) where
  decodes_to : (value : Result X ℕ) → ((x : X) → value ≡ Ok x → Spells f bytes x)
      → ((x : X) → Spells f bytes x → value ≡ Ok x) → ((place : ℕ) → value ≡ Err place → place ≤ length bytes)
      → Returns (λ x. x) result value → DecodesTo value f bytes result
  decodes_to value found again within exact = record {
    found = is_found result exact;
    only = λ x s. subst (Returns (λ x. x) result) (again x s) exact;
    exact = exact;
    within = is_within result exact;
  }
    where
      is_found : (r : Result X BytesBad) → Returns (λ x. x) r value → IfOk r (λ x. Spells f bytes x)
      is_found (Ok x) e = found x e
      is_found (Err why) e = tt

      is_within : (r : Result X BytesBad) → Returns (λ x. x) r value → IfErr r (IsWithin (length bytes))
      is_within (Ok x) e = tt
      is_within (Err bad.Memory) e = tt
      is_within (Err (bad.Bad place)) e = within place e

  -- as `decoded` returns it
  pub decodes : IsBytes bytes → (rest : List ℕ) (read : Result X DecodeError)
      → Gives (λ x. (x, rest)) read (f.read bytes)
      → ((r : Read X) → Gives (λ x. (x, rest)) read r
      → Returns (λ x. x) result (at_place (place_of (length bytes)) (all_of r)))
      → Decodes f bytes result
  unfolding decoded
  decodes fits rest read g returns =
      let well = decodes_well f F in
      decodes_to (decoded f bytes) (λ x e. well.found bytes x fits e) (λ x s. well.again bytes x s)
      (λ place e. well.within bytes place fits e) (returns (f.read bytes) g)

  -- as `decoded_body` returns it
  pub decodes_body : IsBytes bytes → (rest : List ℕ) (read : Result X DecodeError)
      → Gives (λ x. (x, rest)) read (f.read bytes)
      → ((r : Read X) → Gives (λ x. (x, rest)) read r
      → Returns (λ x. x) result (at_place (field_of (length bytes)) (all_of r)))
      → DecodesBody f bytes result
  unfolding body_of
  decodes_body fits rest read g returns =
      let well = bodies_decode_well f F in
      decodes_to (body_of f bytes) (λ x e. well.found bytes x fits e) (λ x s. well.again bytes x s)
      (λ place e. (well.first bytes place fits e).within) (returns (f.read bytes) g)

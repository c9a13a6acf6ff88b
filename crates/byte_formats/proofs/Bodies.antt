-- Bodies: what is so of every lawful format.
use Rattle.std.proofs.Common.{◌≡◌, ℕ, ◌+◌, ◌-◌, ◌<◌, ◌≤◌, List, [], ◌++◌, length, take, Ok, Err}
use Rattle.std.proofs.Common.{◌⊎◌, inl, inr, refl, sym, ap, ◌∙◌, arith}
use Rattle.std.proofs.lemmas.List.{length-append, take_at}
use Rattle.byte_formats.specs.declared.error.FieldError.{FieldError}
use Rattle.byte_formats.specs.declared.error.FieldError.TheVariants.{Truncated, Invalid}
use Rattle.byte_formats.specs.Bodies.{BodiesDecodeWell, EndsInField, IsFirst, IsNotValid, body_of, field_of}
use Rattle.byte_formats.specs.Format.{Format, Read, left_of}
use Rattle.byte_formats.specs.Lawful.{IsBytes, IsEdge, Lawful}
use Rattle.byte_formats.specs.Whole.{IsValidTo, Spells, at_place, decoded, ended, place_of, whole}
use Rattle.byte_formats.proofs.Steps.{bind_err, ok_is, reads_on}
use Rattle.byte_formats.proofs.Wholes.{decodes_well, ended_err, ended_some, err_place, placed_err, placed_ok}
use Rattle.byte_formats.proofs.Wholes.{spelled_alone, spelled_read, whole_stays}

module _ {X : Type 0} (f : Format X) (F : Lawful f) where
  body_found : (bytes : List ℕ) (x : X) → IsBytes bytes → body_of f bytes ≡ Ok x → Spells f bytes x
  unfolding body_of decoded
  body_found bytes x fits e =
      (decodes_well f F).found bytes x fits
      (ap (at_place (place_of (length bytes))) (placed_ok (field_of (length bytes)) (whole f bytes) x e))

  body_again : (bytes : List ℕ) (x : X) → Spells f bytes x → body_of f bytes ≡ Ok x
  unfolding body_of
  body_again bytes x s = rw (spelled_alone f F bytes x s) refl

  edge_valid : (bytes : List ℕ) (place : ℕ) → length bytes ≡ place → IsEdge (f.read bytes)
      → IsValidTo place (at_place (field_of (length bytes)) (whole f bytes))
  edge_valid bytes place size e = rw e.is (omega (arith, size, e.last))

  module _ (bytes : List ℕ) (fits : IsBytes bytes) (error : FieldError) (is : whole f bytes ≡ Err error) where
    left_within : left_of error ≤ length bytes
    left_within = go (bind_err (f.read bytes) ended error is)
      where
        go : (f.read bytes ≡ Err error) ⊎ ((x : X × List ℕ) × (f.read bytes ≡ Ok x) × (ended x ≡ Err error))
            → left_of error ≤ length bytes
        go (inl h) =
            let p = F.placed bytes error fits h in
            omega (arith, ap length p.parts, length-append p.front p.back, p.place)
        go (inr h) =
            let left = ap left_of (ended_err h.0.0 h.0.1 error h.2).0 in
            let g = F.found bytes h.0.0 h.0.1 fits h.1 in
            omega (arith, left, ap length g.0, length-append (f.spell h.0.0) h.0.1)

    fields_before : (place : ℕ) → field_of (length bytes) error ≡ place
        → IsValidTo place (at_place (field_of (length (take place bytes))) (whole f (take place bytes)))
    fields_before place at = go (bind_err (f.read bytes) ended error is)
      where
        go : (f.read bytes ≡ Err error) ⊎ ((x : X × List ℕ) × (f.read bytes ≡ Ok x) × (ended x ≡ Err error))
            → IsValidTo place (at_place (field_of (length (take place bytes))) (whole f (take place bytes)))
        go (inl h) =
            let p = F.placed bytes error fits h in
            let size : length bytes ≡ length p.front + length p.back = ap length p.parts
            ∙ length-append p.front p.back in
            let long : length p.front ≡ place = omega (arith, size, at, p.place) in
            let front : take place bytes ≡ p.front = ap (take place) p.parts ∙ take_at p.front p.back place long in
            rw front (edge_valid p.front place long p.edge)
        go (inr h) =
            let left : left_of error ≡ length h.0.1 = ap left_of (ended_err h.0.0 h.0.1 error h.2).0 in
            let g = F.found bytes h.0.0 h.0.1 fits h.1 in
            let text : List ℕ = f.spell h.0.0 in
            let size : length bytes ≡ length text + length h.0.1 = ap length g.0 ∙ length-append text h.0.1 in
            let long : length text ≡ place = omega (arith, size, at, left) in
            let front : take place bytes ≡ text = ap (take place) g.0 ∙ take_at text h.0.1 place long in
            rw (front, spelled_alone f F text h.0.0 (record { fits = g.1; is = refl })) tt

  not_valid : (bytes : List ℕ) → IsBytes bytes → (place : ℕ) (error : FieldError) → whole f bytes ≡ Err error
      → field_of (length bytes) error ≡ place → IsNotValid f bytes place error
  unfolding body_of
  not_valid bytes fits place (Truncated k) is at = is
  not_valid bytes fits place (Invalid k) is at = λ more.
      let within : k ≤ length bytes = left_within bytes fits (Invalid k) is in
      let size = length-append bytes more in
      let same : length (bytes ++ more) - (k + length more) ≡ place = omega (arith, at, within, size) in
      ap (at_place (field_of (length (bytes ++ more)))) (whole_stays f F bytes more k fits is) ∙ err_place _ _ same

  body_first : (bytes : List ℕ) (place : ℕ) → IsBytes bytes → body_of f bytes ≡ Err place → IsFirst f bytes place
  unfolding body_of
  body_first bytes place fits e =
      let a = placed_err (field_of (length bytes)) (whole f bytes) place e in
      record {
        error = a.0;
        is = a.1;
        at = sym a.2;
        within = omega (arith, a.2);
        before = fields_before bytes fits a.0 a.1 place a.2;
        invalid = not_valid bytes fits place a.0 a.1 a.2;
      }

  body_truncated : (bytes more : List ℕ) (x : X) → IsBytes bytes → Spells f (bytes ++ more) x → 0 < length more
      → EndsInField f bytes
  unfolding body_of
  body_truncated bytes more x fits s some = go (f.read bytes) refl
    where
      go : (r : Read X) → f.read bytes ≡ r → EndsInField f bytes
      go (Ok y) read =
          let on : f.read (bytes ++ more) ≡ Ok (y.0, y.1 ++ more) = reads_on f F bytes y.0 y.1 more fits read in
          let same : y.1 ++ more ≡ [] =
          ap (λ (z : X × List ℕ). z.1)
          (ok_is (y.0, y.1 ++ more) (x, []) (sym on ∙ spelled_alone f F (bytes ++ more) x s)) in
          absurd (omega (arith, ap length same, some, length-append y.1 more))
      go (Err (Invalid k)) read = absurd (cc (F.stays bytes more k fits read, spelled_alone f F (bytes ++ more) x s))
      go (Err (Truncated k)) read = record { left = k; is = rw read refl; at = rw read refl }

  body_too_many : (bytes more : List ℕ) (x : X) → Spells f bytes x → 0 < length more
      → body_of f (bytes ++ more) ≡ Err (length bytes)
  unfolding body_of
  body_too_many bytes more x s some =
      let size : length (bytes ++ more) - length more ≡ length bytes = omega (arith, length-append bytes more) in
      rw (spelled_read f F bytes more x s, ended_some x more some) (err_place _ _ size)

  pub bodies_decode_well : BodiesDecodeWell f
  bodies_decode_well = record {
    found = body_found;
    again = body_again;
    first = body_first;
    truncated = body_truncated;
    too_many = body_too_many;
  }

-- One value and then another: lawful where both formats are.
use Rattle.std.proofs.Common.{◌≡◌, ℕ, ◌+◌, true, ◌&&◌, List, ◌++◌, length, Ok, Err}
use Rattle.std.proofs.Common.{◌⊎◌, inl, inr, refl, sym, ap, subst, ◌∙◌, append_assoc}
use Rattle.std.proofs.lemmas.Bool.{and_parts, and_from}
use Rattle.byte_formats.specs.declared.error.FieldError.{FieldError}
use Rattle.byte_formats.specs.declared.error.FieldError.TheVariants.{Invalid}
use Rattle.byte_formats.specs.Format.{◌>>=◌, Format, Read, both}
use Rattle.byte_formats.specs.Lawful.{IsBytes, IsPlaced, Lawful}
use Rattle.byte_formats.proofs.Steps.{IsBytes-back, bind_err, bind_ok, edge_then, ok_is, reads_on}

module _ {X Y : Type 0} (f : Format X) (g : X → Format Y) (F : Lawful f) (G : (x : X) → Lawful (g x)) where
  abbrev pair : Format (X × Y)
  pair = both f g

  abbrev pairing : X → Y × List ℕ → Read (X × Y)
  pairing x y = Ok ((x, y.0), y.1)

  abbrev second : X × List ℕ → Read (X × Y)
  second x = (g x.0).read x.1 >>= pairing x.0

  both_again : (p : X × Y) (rest : List ℕ) → pair.fits p ≡ true → pair.read (pair.spell p ++ rest) ≡ Ok (p, rest)
  both_again p rest h =
      let fit = and_parts (f.fits p.0) ((g p.0).fits p.1) h in
      let behind : List ℕ = (g p.0).spell p.1 ++ rest in
      ap pair.read (append_assoc (f.spell p.0) ((g p.0).spell p.1) rest)
      ∙ rw (F.again p.0 behind fit.0, (G p.0).again p.1 rest fit.1) refl

  both_found : (bytes : List ℕ) (p : X × Y) (rest : List ℕ) → IsBytes bytes → pair.read bytes ≡ Ok (p, rest)
      → (bytes ≡ pair.spell p ++ rest) × (pair.fits p ≡ true)
  both_found bytes p rest fits e =
      let a = bind_ok (f.read bytes) second (p, rest) e in
      let first = F.found bytes a.0.0 a.0.1 fits a.1 in
      let b = bind_ok ((g a.0.0).read a.0.1) (pairing a.0.0) (p, rest) a.2 in
      let behind : IsBytes a.0.1 = IsBytes-back (f.spell a.0.0) a.0.1 (subst IsBytes first.0 fits) in
      let next = (G a.0.0).found a.0.1 b.0.0 b.0.1 behind b.1 in
      let parts : bytes ≡ (f.spell a.0.0 ++ (g a.0.0).spell b.0.0) ++ b.0.1 =
      first.0 ∙ ap (λ (t : List ℕ). f.spell a.0.0 ++ t) next.0 ∙ sym
      (append_assoc (f.spell a.0.0) ((g a.0.0).spell b.0.0) b.0.1) in
      subst (λ (z : (X × Y) × List ℕ). (bytes ≡ pair.spell z.0 ++ z.1) × (pair.fits z.0 ≡ true))
      (ok_is ((a.0.0, b.0.0), b.0.1) (p, rest) b.2)
      (parts, and_from (f.fits a.0.0) ((g a.0.0).fits b.0.0) first.1 next.1)

  -- where the error is in the first value, or in the second one
  both_err : (bytes : List ℕ) (error : FieldError) → pair.read bytes ≡ Err error
      → (f.read bytes ≡ Err error) ⊎ ((x : X × List ℕ) × (f.read bytes ≡ Ok x) × ((g x.0).read x.1 ≡ Err error))
  both_err bytes error e = go (bind_err (f.read bytes) second error e)
    where
      go : (f.read bytes ≡ Err error) ⊎ ((x : X × List ℕ) × (f.read bytes ≡ Ok x) × (second x ≡ Err error))
          → (f.read bytes ≡ Err error) ⊎ ((x : X × List ℕ) × (f.read bytes ≡ Ok x) × ((g x.0).read x.1 ≡ Err error))
      go (inl h) = inl h
      go (inr h) = next h.0 h.1 (bind_err ((g h.0.0).read h.0.1) (pairing h.0.0) error h.2)
        where
          next : (x : X × List ℕ) → f.read bytes ≡ Ok x
              → ((g x.0).read x.1 ≡ Err error) ⊎
              ((y : Y × List ℕ) × ((g x.0).read x.1 ≡ Ok y) × (pairing x.0 y ≡ Err error))
              → (f.read bytes ≡ Err error) ⊎ ((x : X × List ℕ) × (f.read bytes ≡ Ok x) × ((g x.0).read x.1 ≡ Err error))
          next x read (inl k) = inr (x, read, k)
          next x read (inr k) = absurd (cc k.2)

  module _ (bytes : List ℕ) (fits : IsBytes bytes) (x : X × List ℕ) (read : f.read bytes ≡ Ok x) where
    first_is : (bytes ≡ f.spell x.0 ++ x.1) × (f.fits x.0 ≡ true)
    first_is = F.found bytes x.0 x.1 fits read

    rest_fits : IsBytes x.1
    rest_fits = IsBytes-back (f.spell x.0) x.1 (subst IsBytes first_is.0 fits)

    second_placed : (error : FieldError) → (g x.0).read x.1 ≡ Err error → IsPlaced pair bytes error
    second_placed error e =
        let p = (G x.0).placed x.1 error rest_fits e in
        let is : f.read (f.spell x.0 ++ p.front) ≡ Ok (x.0, p.front) = F.again x.0 p.front first_is.1 in
        record {
          front = f.spell x.0 ++ p.front;
          back = p.back;
          parts = first_is.0 ∙ ap (λ (t : List ℕ). f.spell x.0 ++ t) p.parts ∙ sym
              (append_assoc (f.spell x.0) p.front p.back);
          place = p.place;
          edge = record { error = p.edge.error; is = rw (is, p.edge.is) refl; last = p.edge.last };
        }

  both_stays : (bytes more : List ℕ) (left : ℕ) → IsBytes bytes → pair.read bytes ≡ Err (Invalid left)
      → pair.read (bytes ++ more) ≡ Err (Invalid (left + length more))
  both_stays bytes more left fits e = go (both_err bytes (Invalid left) e)
    where
      go : (f.read bytes ≡ Err (Invalid left)) ⊎
          ((x : X × List ℕ) × (f.read bytes ≡ Ok x) × ((g x.0).read x.1 ≡ Err (Invalid left)))
          → pair.read (bytes ++ more) ≡ Err (Invalid (left + length more))
      go (inl h) = rw (F.stays bytes more left fits h) refl
      go (inr h) =
          rw (
            reads_on f F bytes h.0.0 h.0.1 more fits h.1,
            (G h.0.0).stays h.0.1 more left
                (rest_fits bytes fits h.0 h.1) h.2,
          ) refl

  both_placed : (bytes : List ℕ) (error : FieldError) → IsBytes bytes → pair.read bytes ≡ Err error
      → IsPlaced pair bytes error
  both_placed bytes error fits e = go (both_err bytes error e)
    where
      go : (f.read bytes ≡ Err error) ⊎ ((x : X × List ℕ) × (f.read bytes ≡ Ok x) × ((g x.0).read x.1 ≡ Err error))
          → IsPlaced pair bytes error
      go (inl h) =
          let p = F.placed bytes error fits h in
          record {
            front = p.front;
            back = p.back;
            parts = p.parts;
            place = p.place;
            edge = edge_then
                (f.read p.front) second p.edge;
          }
      go (inr h) = second_placed bytes fits h.0 h.1 error h.2

  pub both_lawful : Lawful (both f g)
  both_lawful = record { again = both_again; found = both_found; stays = both_stays; placed = both_placed }

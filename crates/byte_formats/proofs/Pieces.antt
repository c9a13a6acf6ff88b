-- Formats made of others are lawful where those are.
use Rattle.std.proofs.Common.{◌≡◌, ℕ, ◌+◌, Bool, true, false, ◌&&◌, List, [], ◌++◌, length, Option, Some, None, Ok, Err}
use Rattle.std.proofs.Common.{◌⊎◌, inl, inr, refl, sym, ap, subst, ◌∙◌, append_assoc}
use Rattle.std.proofs.lemmas.Bool.{and_parts, and_from}
use Rattle.std.proofs.lemmas.List.{length-append}
use Rattle.byte_formats.specs.declared.error.FieldError.{FieldError}
use Rattle.byte_formats.specs.declared.error.FieldError.TheVariants.{Truncated, Invalid}
use Rattle.byte_formats.specs.Format.{◌>>=◌, Format, Read, at_front, both, constant, field, holds, keeping, kept}
use Rattle.byte_formats.specs.Format.{left_of, made}
use Rattle.byte_formats.specs.Format.{spelled}
use Rattle.byte_formats.specs.Lawful.{IsBytes, IsEdge, IsPlaced, Lawful}
use Rattle.byte_formats.proofs.Steps.{IsBytes-back, bind_err, bind_ok, edge_then, error_nil, nil_bytes, ok_is, reads_on}
use Rattle.byte_formats.proofs.Steps.{rule_err, rule_ok, invalid_is}

-- ---- no field

pub constant_lawful : {X : Type 0} (x : X) (is : X → Bool) → is x ≡ true → ((y : X) → is y ≡ true → y ≡ x)
    → Lawful (constant x is)
constant_lawful {X = X} x is known same = record {
  again = λ y rest h. ap (λ (z : X). Ok (z, rest)) (sym (same y h));
  found = λ bytes y rest fits e. subst (λ (z : X × List ℕ). (bytes ≡ z.1) × (is z.0 ≡ true))
      (ok_is (x, bytes) (y, rest) e) (refl, known);
  stays = λ bytes more left fits e. absurd cc;
  placed = λ bytes error fits e. absurd cc;
}

-- ---- rules

module _ {X : Type 0} (rule : X → Bool) (f : Format X) (F : Lawful f) where
  abbrev kept_format : Format X
  kept_format = keeping rule f

  keeping_found : (bytes : List ℕ) (x : X) (rest : List ℕ) → IsBytes bytes → kept_format.read bytes ≡ Ok (x, rest)
      → (bytes ≡ f.spell x ++ rest) × ((f.fits x && rule x) ≡ true)
  keeping_found bytes x rest fits e =
      let a = bind_ok (f.read bytes) (kept rule (length bytes)) (x, rest) e in
      let b = rule_ok (rule a.0.0) (Invalid (length bytes)) a.0 (x, rest) a.2 in
      let g = F.found bytes a.0.0 a.0.1 fits a.1 in
      subst (λ (y : X × List ℕ). (bytes ≡ f.spell y.0 ++ y.1) × ((f.fits y.0 && rule y.0) ≡ true)) b.1
      (g.0, and_from (f.fits a.0.0) (rule a.0.0) g.1 b.0)

  keeping_stays : (bytes more : List ℕ) (left : ℕ) → IsBytes bytes → kept_format.read bytes ≡ Err (Invalid left)
      → kept_format.read (bytes ++ more) ≡ Err (Invalid (left + length more))
  keeping_stays bytes more left fits e = go (bind_err (f.read bytes) (kept rule (length bytes)) (Invalid left) e)
    where
      go : (f.read bytes ≡ Err (Invalid left)) ⊎
          ((x : X × List ℕ) × (f.read bytes ≡ Ok x) × (kept rule (length bytes) x ≡ Err (Invalid left)))
          → kept_format.read (bytes ++ more) ≡ Err (Invalid (left + length more))
      go (inl h) = rw (F.stays bytes more left fits h) refl
      go (inr h) =
          let b = rule_err (rule h.0.0) (Invalid (length bytes)) (Invalid left) h.0 h.2 in
          rw (
            reads_on f F bytes h.0.0 h.0.1 more fits h.1,
            b.0,
            length-append bytes more,
            invalid_is (length bytes) left b.1,
          ) refl

  keeping_placed : (bytes : List ℕ) (error : FieldError) → IsBytes bytes → kept_format.read bytes ≡ Err error
      → IsPlaced kept_format bytes error
  keeping_placed bytes error fits e = go (bind_err (f.read bytes) (kept rule (length bytes)) error e)
    where
      go : (f.read bytes ≡ Err error) ⊎
          ((x : X × List ℕ) × (f.read bytes ≡ Ok x) × (kept rule (length bytes) x ≡ Err error))
          → IsPlaced kept_format bytes error
      go (inl h) =
          let p = F.placed bytes error fits h in
          record {
            front = p.front;
            back = p.back;
            parts = p.parts;
            place = p.place;
            edge = edge_then (f.read p.front) (kept rule (length p.front)) p.edge;
          }
      go (inr h) =
          let b = rule_err (rule h.0.0) (Invalid (length bytes)) error h.0 h.2 in
          record {
            front = [];
            back = bytes;
            parts = refl;
            place = ap left_of b.1;
            edge = at_nil h.0 h.1 b.0 (f.read []) refl;
          }
        where
          at_nil : (x : X × List ℕ) → f.read bytes ≡ Ok x → rule x.0 ≡ false → (r : Read X) → f.read [] ≡ r
              → IsEdge (kept_format.read [])
          at_nil x read breaks (Ok y) e0 =
              let on : f.read bytes ≡ Ok (y.0, y.1 ++ bytes) = reads_on f F [] y.0 y.1 bytes nil_bytes e0 in
              let same : x.0 ≡ y.0 = ap (λ (z : X × List ℕ). z.0) (ok_is x (y.0, y.1 ++ bytes) (sym read ∙ on)) in
              record { error = Invalid 0; is = rw (e0, ← same, breaks) refl; last = refl }
          at_nil x read breaks (Err why) e0 = edge_then (f.read []) (kept rule 0) (error_nil f F [] why e0)

  pub keeping_lawful : Lawful (keeping rule f)
  keeping_lawful = record {
    again = λ x rest h.
        let p = and_parts (f.fits x) (rule x) h in
        rw (F.again x rest p.0, p.1) refl;
    found = keeping_found;
    stays = keeping_stays;
    placed = keeping_placed;
  }

-- ---- single fields

front_ok : {X : Type 0} (len : ℕ) (r : Read X) (x : X × List ℕ) → at_front len r ≡ Ok x → r ≡ Ok x
front_ok len (Ok y) x e = e
front_ok len (Err (Truncated left)) x e = absurd cc
front_ok len (Err (Invalid left)) x e = absurd cc

front_invalid : {X : Type 0} (len : ℕ) (r : Read X) (left : ℕ) → at_front len r ≡ Err (Invalid left)
    → (k : ℕ) × (r ≡ Err (Invalid k)) × (len ≡ left)
front_invalid len (Ok y) left e = absurd cc
front_invalid len (Err (Truncated k)) left e = absurd cc
front_invalid len (Err (Invalid k)) left e = (k, refl, cc)

front_err : {X : Type 0} (len : ℕ) (r : Read X) (error : FieldError) → at_front len r ≡ Err error
    → (why : FieldError) × (r ≡ Err why) × (len ≡ left_of error)
front_err len (Ok y) error e = absurd cc
front_err len (Err (Truncated k)) (Truncated left) e = (Truncated k, refl, cc)
front_err len (Err (Truncated k)) (Invalid left) e = absurd cc
front_err len (Err (Invalid k)) (Truncated left) e = absurd cc
front_err len (Err (Invalid k)) (Invalid left) e = (Invalid k, refl, cc)

front_edge : {X : Type 0} (r : Read X) → IsEdge r → IsEdge (at_front 0 r)
front_edge (Ok y) e = absurd (cc e.is)
front_edge (Err (Truncated k)) e = record { error = Truncated 0; is = refl; last = refl }
front_edge (Err (Invalid k)) e = record { error = Invalid 0; is = refl; last = refl }

pub field_lawful : {X : Type 0} (f : Format X) → Lawful f → Lawful (field f)
field_lawful f F = record {
  again = λ x rest h. rw (F.again x rest h) refl;
  found = λ bytes x rest fits e. F.found bytes x rest fits (front_ok (length bytes) (f.read bytes) (x, rest) e);
  stays = λ bytes more left fits e.
      let a = front_invalid (length bytes) (f.read bytes) left e in
      rw (F.stays bytes more a.0 fits a.1, length-append bytes more, a.2) refl;
  placed = λ bytes error fits e.
      let a = front_err (length bytes) (f.read bytes) error e in
      record {
        front = [];
        back = bytes;
        parts = refl;
        place = a.2;
        edge = front_edge (f.read []) (error_nil f F bytes a.0 a.1);
      };
}

-- ---- values made of others

module _ {Y X : Type 0} (make : Y → X) (parts : X → Option Y) (f : Format Y) (F : Lawful f)
    (there : (y : Y) → f.fits y ≡ true → parts (make y) ≡ Some y)
    (back : (x : X) (y : Y) → parts x ≡ Some y → make y ≡ x) where
  abbrev made_format : Format X
  made_format = made make parts f

  abbrev making : Y × List ℕ → Read X
  making y = Ok (make y.0, y.1)

  made_again : (x : X) (rest : List ℕ) → made_format.fits x ≡ true
      → made_format.read (made_format.spell x ++ rest) ≡ Ok (x, rest)
  made_again x rest h = go (parts x) refl
    where
      go : (o : Option Y) → parts x ≡ o → made_format.read (made_format.spell x ++ rest) ≡ Ok (x, rest)
      go None e =
          let no : false ≡ true = subst (λ (o : Option Y). holds f.fits o ≡ true) e h in
          absurd cc
      go (Some y) e =
          let fits : f.fits y ≡ true = subst (λ (o : Option Y). holds f.fits o ≡ true) e h in
          let text : made_format.spell x ≡ f.spell y = ap (spelled f.spell) e in
          ap (λ (t : List ℕ). made_format.read (t ++ rest)) text ∙ rw (F.again y rest fits, back x y e) refl

  made_found : (bytes : List ℕ) (x : X) (rest : List ℕ) → IsBytes bytes → made_format.read bytes ≡ Ok (x, rest)
      → (bytes ≡ made_format.spell x ++ rest) × (made_format.fits x ≡ true)
  made_found bytes x rest fits e =
      let a = bind_ok (f.read bytes) making (x, rest) e in
      let g = F.found bytes a.0.0 a.0.1 fits a.1 in
      let t = there a.0.0 g.1 in
      subst (λ (z : X × List ℕ). (bytes ≡ made_format.spell z.0 ++ z.1) × (made_format.fits z.0 ≡ true))
      (ok_is (make a.0.0, a.0.1) (x, rest) a.2)
      (g.0 ∙ ap (λ (o : Option Y). spelled f.spell o ++ a.0.1) (sym t), ap (holds f.fits) t ∙ g.1)

  made_err : (bytes : List ℕ) (error : FieldError) → made_format.read bytes ≡ Err error → f.read bytes ≡ Err error
  made_err bytes error e = go (bind_err (f.read bytes) making error e)
    where
      go : (f.read bytes ≡ Err error) ⊎ ((y : Y × List ℕ) × (f.read bytes ≡ Ok y) × (making y ≡ Err error))
          → f.read bytes ≡ Err error
      go (inl h) = h
      go (inr h) = absurd (cc h.2)

  pub made_lawful : Lawful (made make parts f)
  made_lawful = record {
    again = made_again;
    found = made_found;
    stays = λ bytes more left fits e. rw (F.stays bytes more left fits (made_err bytes (Invalid left) e)) refl;
    placed = λ bytes error fits e.
        let p = F.placed bytes error fits (made_err bytes error e) in
        record {
          front = p.front;
          back = p.back;
          parts = p.parts;
          place = p.place;
          edge = edge_then (f.read p.front) making p.edge;
        };
  }

-- Steps that may fail, and bytes in two parts.
use Rattle.std.proofs.Common.{◌≡◌, ℕ, Bool, true, false, cond, List, [], ◌++◌, length}
use Rattle.std.proofs.Common.{Some, Result, Ok, Err, ◌⊎◌, inl, inr, refl, ap, subst, ◌∙◌, append_assoc, arith}
use Rattle.std.proofs.lemmas.List.{drop_at, take_at, length-append}
use Rattle.byte_formats.specs.declared.error.FieldError.{FieldError}
use Rattle.byte_formats.specs.declared.error.FieldError.TheVariants.{Invalid}
use Rattle.byte_formats.specs.Format.{◌>>=◌, Format, Read}
use Rattle.byte_formats.specs.Lawful.{IsBytes, IsEdge, Lawful}
use Rattle.byte_formats.proofs.Digits.{IsBytes-drop, IsBytes-take}

-- the value of a step that didn't fail
pub bind_ok : {X Y : Type 0} (r : Result X FieldError) (f : X → Result Y FieldError) (y : Y) → (r >>= f) ≡ Ok y
    → (x : X) × (r ≡ Ok x) × (f x ≡ Ok y)
bind_ok (Ok x) f y e = (x, refl, e)
bind_ok (Err error) f y e = absurd cc

-- the step that failed
pub bind_err : {X Y : Type 0} (r : Result X FieldError) (f : X → Result Y FieldError) (error : FieldError)
    → (r >>= f) ≡ Err error
    → (r ≡ Err error) ⊎ ((x : X) × (r ≡ Ok x) × (f x ≡ Err error))
bind_err (Ok x) f error e = inr (x, refl, e)
bind_err (Err why) f error e = inl (cc)

pub rule_ok : {X : Type 0} (b : Bool) (error : FieldError) (x y : X) → cond b (Ok x) (Err error) ≡ Ok y
    → (b ≡ true) × (x ≡ y)
rule_ok true error x y e = (refl, cc)
rule_ok false error x y e = absurd cc

pub rule_err : {X : Type 0} (b : Bool) (error why : FieldError) (x : X) → cond b (Ok x) (Err error) ≡ Err why
    → (b ≡ false) × (error ≡ why)
rule_err {X = X} true error why x e = absurd cc
rule_err false error why x e = (refl, cc)

abbrev done : {X : Type 0} → X → Result X FieldError
done x = Ok x

-- a step that fails, at a type of no account
abbrev pub failed : {X : Type 0} → FieldError → Result X FieldError
failed error = Err error

pub ok_is : {X : Type 0} (x y : X) → done x ≡ done y → x ≡ y
ok_is x y e = cc

pub err_is : {X : Type 0} (a b : FieldError) → failed {X = X} a ≡ failed b → a ≡ b
err_is a b e = cc

pub some_is : {X : Type 0} (x y : X) → Some x ≡ Some y → x ≡ y
some_is x y e = cc

pub err_left : {X : Type 0} (a b : ℕ) → failed {X = X} (Invalid a) ≡ failed (Invalid b) → a ≡ b
err_left a b e = cc

pub invalid_is : (a b : ℕ) → Invalid a ≡ Invalid b → a ≡ b
invalid_is a b e = cc

pub IsBytes-back : (a b : List ℕ) → IsBytes (a ++ b) → IsBytes b
IsBytes-back a b h = subst IsBytes (drop_at a b (length a) refl) (IsBytes-drop (length a) (a ++ b) h)

pub IsBytes-front : (a b : List ℕ) → IsBytes (a ++ b) → IsBytes a
IsBytes-front a b h = subst IsBytes (take_at a b (length a) refl) (IsBytes-take (length a) (a ++ b) h)

pub nil_bytes : IsBytes []
nil_bytes i = omega arith

-- ---- what a lawful format reads

module _ {X : Type 0} (f : Format X) (F : Lawful f) where
  -- what was read is read the same before other bytes
  pub reads_on : (bytes : List ℕ) (x : X) (rest more : List ℕ) → IsBytes bytes → f.read bytes ≡ Ok (x, rest)
      → f.read (bytes ++ more) ≡ Ok (x, rest ++ more)
  reads_on bytes x rest more fits e =
      let g = F.found bytes x rest fits e in
      ap f.read (ap (λ (t : List ℕ). t ++ more) g.0 ∙ append_assoc (f.spell x) rest more) ∙ F.again x (rest ++ more) g.1

  nil_edge : (error : FieldError) → f.read [] ≡ Err error → IsEdge (f.read [])
  nil_edge error e =
      let p = F.placed [] error nil_bytes e in
      let none : 0 ≡ length (p.front ++ p.back) = ap length p.parts in
      record { error = error; is = e; last = omega (arith, none, length-append p.front p.back, p.place) }

  -- where there is an error in some bytes, no bytes at all have one too
  pub error_nil : (bytes : List ℕ) (error : FieldError) → f.read bytes ≡ Err error → IsEdge (f.read [])
  error_nil bytes error e = go (f.read []) refl
    where
      go : (r : Read X) → f.read [] ≡ r → IsEdge (f.read [])
      go (Ok x) e0 =
          let on : f.read bytes ≡ Ok (x.0, x.1 ++ bytes) = reads_on [] x.0 x.1 bytes nil_bytes e0 in
          absurd (cc (e, on))
      go (Err why) e0 = nil_edge why e0

pub edge_then : {X Y : Type 0} (r : Read X) (f : X × List ℕ → Read Y) → IsEdge r → IsEdge (r >>= f)
edge_then r f e = record { error = e.error; is = rw e.is refl; last = e.last }

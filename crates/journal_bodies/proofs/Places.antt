-- Bodies as a whole: with no byte behind them, and with a place for a fault.
use Rattle.std.proofs.Common.{◌≡◌, ℕ, ◌-◌, ◌<◌, ◌≤◌, ◌==◌, Bool, true, false, cond, List, [], ◌++◌, length, Result, Ok, Err}
use Rattle.std.proofs.Common.{refl, sym, ap, subst, ◌∙◌, append_assoc, arith}
use Rattle.std.proofs.lemmas.Bool.{eqb-true}
use Rattle.std.proofs.lemmas.List.{append-nil, length-append, nil_from_length}
use Rattle.byte_formats.specs.Answers.{Fails}
use Rattle.docs_format.specs.Answers.{Decodes}
use Rattle.byte_formats.specs.Format.{Read, left_of}
use Rattle.byte_formats.specs.declared.error.FieldError.{FieldError}
use Rattle.byte_formats.specs.declared.error.FieldError.TheVariants.{Invalid}
use Rattle.byte_formats.specs.declared.error.DecodeError.{DecodeError}
use Rattle.byte_formats.specs.declared.error.DecodeError.TheVariants as stop
use Rattle.docs_format.proofs.Fields.{ok_is}
use Rattle.journal_bodies.specs.Answers.{IsWithin, alone, placed}
use Rattle.docs_format.specs.declared.fault.DocBytesBad.{DocBytesBad}
use Rattle.journal_bodies.proofs.Steps.{Reads}

pub unplaced : {X : Type 0} (len : ℕ) (r : Result X FieldError) (x : X) → placed len r ≡ Ok x → r ≡ Ok x
unplaced len (Ok y) x e = cc
unplaced len (Err fault) x e = absurd cc

pub alone_ok : {X : Type 0} (read : Read X) (x : X) → alone read ≡ Ok x → read ≡ Ok (x, [])
alone_ok {X = X} (Err fault) x e = absurd cc
alone_ok {X = X} (Ok y) x e = go (length y.1 == 0) refl e
  where
    go : (b : Bool) → (length y.1 == 0) ≡ b → cond b (Ok y.0) (Err (Invalid (length y.1))) ≡ Ok x
        → (let r : Read X = Ok y in r) ≡ Ok (x, [])
    go true z f =
        let none : y.1 ≡ [] = nil_from_length y.1 (eqb-true (length y.1) 0 z) in
        let same : y.0 ≡ x = cc in
        ap (λ (rest : List ℕ). Ok (y.0, rest)) none ∙ ap (λ (v : X). Ok (v, [])) same
    go false z f = absurd cc

-- the bytes left from a fault on are among those that there are
pub is_within : {X : Type 0} (spell : X → List ℕ) (P : X → Type 0) (bytes : List ℕ) (read : Read X) (why : DecodeError)
    → Reads spell P bytes read → Fails why (alone read) → IsWithin (length bytes) why
is_within spell P bytes read stop.Memory r e = tt
is_within spell P bytes (Err fault) (stop.Bad other) r e =
    let same : fault ≡ other = cc in subst (λ (f : FieldError). left_of f ≤ length bytes) same r
is_within {X = X} spell P bytes (Ok x) (stop.Bad fault) r e = go (length x.1 == 0) e
  where
    len : length x.1 ≤ length bytes
    len = omega (arith, length-append (spell x.0) x.1, ap length r.0.parts)

    go : (b : Bool) → (let s : Result X FieldError = cond b (Ok x.0) (Err (Invalid (length x.1))) in s) ≡ Err fault
        → left_of fault ≤ length bytes
    go true f = absurd cc
    go false f = let same : Invalid (length x.1) ≡ fault = cc in subst (λ (g : FieldError). left_of g ≤ length bytes) same len

-- a value that was read whole is spelled by the bytes
pub whole_found : {X : Type 0} (spell : X → List ℕ) (P : X → Type 0) (bytes : List ℕ) (read : Read X) (x : X)
    → Reads spell P bytes read → placed (length bytes) (alone read) ≡ Ok x → (bytes ≡ spell x) × P x
whole_found spell P bytes read x r e =
    let is : read ≡ Ok (x, []) = alone_ok read x (unplaced (length bytes) (alone read) x e) in
    let k = subst (λ s. Reads spell P bytes s) is r in
    (k.0.parts ∙ append-nil (spell x), k.1)

pub whole_again : {X : Type 0} (len : ℕ) (read : Read X) (x : X) → read ≡ Ok (x, []) → placed len (alone read) ≡ Ok x
whole_again len read x e = rw e refl

pub is_only : {X : Type 0} (r : Result X DocBytesBad) (read : Result X ℕ) (x : X) → read ≡ Ok x → Decodes r read
    → Decodes r (Ok x)
is_only {X = X} r read x e a = subst (λ (s : Result X ℕ). Decodes r s) e a

-- bytes that end early are no body
pub ends_early : {X : Type 0} (read_at : List ℕ → Read X) (spell : X → List ℕ) (P : X → Type 0)
    → ((x : X) (rest : List ℕ) → P x → read_at (spell x ++ rest) ≡ Ok (x, rest))
    → (bytes more : List ℕ) (x : X) → Reads spell P bytes (read_at bytes) → read_at (bytes ++ more) ≡ Ok (x, [])
    → 0 < length more
    → (place : ℕ) × (placed (length bytes) (alone (read_at bytes)) ≡ Err place) × (place ≤ length bytes)
ends_early {X = X} read_at spell P again bytes more x r e some = go (read_at bytes) r
  where
    go : (read : Read X) → Reads spell P bytes read
        → (place : ℕ) × (placed (length bytes) (alone read) ≡ Err place) × (place ≤ length bytes)
    go (Err fault) r = (length bytes - left_of fault, refl, omega arith)
    go (Ok y) r =
        let longer : bytes ++ more ≡ spell y.0 ++ (y.1 ++ more) =
        ap (λ (t : List ℕ). t ++ more) r.0.parts ∙ append_assoc (spell y.0) y.1 more in
        let both : (let s : Read X = Ok (x, []) in s) ≡ Ok (y.0, y.1 ++ more) =
        sym e ∙ ap read_at longer ∙ again y.0 (y.1 ++ more) r.1 in
        let none : [] ≡ y.1 ++ more =
        ap (λ (z : X × List ℕ). z.1) (ok_is (x, []) (y.0, y.1 ++ more) both) in
        absurd (omega (arith, some, length-append y.1 more, ap length none))

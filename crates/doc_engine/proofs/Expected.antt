-- What operations expect that agree with what is live.
use Rattle.std.proofs.Common.{◌≡◌, ◌<◌, ◌≤◌, ◌^◌, ◌==◌, ℕ, Bool, true, false, cond, not, ◌&&◌, ◌||◌, List, [], ◌∷◌}
use Rattle.std.proofs.Common.{Option, None, Some, refl, arith}
use Rattle.std.proofs.lemmas.Bool.Decides.{nat_tests}
use Rattle.std.specs.FinMap.{get}
use Rattle.std.specs.List.{find, list_all}
use Rattle.std.specs.Option.{option_map_or}
use Rattle.doc_model.specs.Operations.{expect_of, uri_of}
use Rattle.doc_model.specs.declared.op.Op.{Op}
use Rattle.doc_meaning.specs.History.{Database}
use Rattle.doc_meaning.specs.Replies.{differs, live_stamp}
use Rattle.doc_meaning.specs.declared.version.Version.{Version}
use Rattle.journal_bodies.specs.Entries.{is_expect}

neither : {T : Type 0} (b : Bool) (x : T) (o : Option T) → cond b (Some x) o ≡ None → (b ≡ false) × (o ≡ None)
neither true x o none = absurd (cc)
neither false x o none = (refl, none)

pub both : (a b : Bool) → a ≡ true → b ≡ true → (a && b) ≡ true
both true b a-is b-is = b-is
both false b a-is b-is = absurd (cc)

-- what is live was created by the front
stamp_by : (o : Option Version) (front : ℕ) → ((v : Version) → o ≡ Some v → v.created ≤ front)
    → option_map_or (λ v. v.created) o 0 ≤ front
stamp_by None front by = omega arith
stamp_by (Some v) front by = by v refl

-- the live stamp itself is expected, or none
expects_stamp : (expect : Option ℕ) (stamp : ℕ) → stamp < 2 ^ 48
    → option_map_or (λ s. not (s == stamp)) expect false ≡ false → is_expect expect ≡ true
expects_stamp None stamp early agrees = refl
expects_stamp (Some s) stamp early agrees = grind (arith, nat_tests)

-- operations that agree with what is live expect timestamps below 2^48
pub expects_early : (db : Database) (front : ℕ) → front < 2 ^ 48
    → ((uri : List ℕ) (v : Version) → get db uri ≡ Some v → v.created ≤ front)
    → (ops : List Op) → find (differs db) ops ≡ None → list_all (λ o. is_expect (expect_of o)) ops ≡ true
expects_early db front early stamps [] agrees = refl
expects_early db front early stamps (op ∷ ops) agrees =
    let parts = neither (differs db op) op (find (differs db) ops) agrees in
    let by = stamp_by (get db (uri_of op)) front (stamps (uri_of op)) in
    let below : live_stamp db (uri_of op) < 2 ^ 48 = omega (arith, by, early) in
    both (is_expect (expect_of op)) (list_all (λ o. is_expect (expect_of o)) ops)
    (expects_stamp (expect_of op) (live_stamp db (uri_of op)) below parts.0)
    (expects_early db front early stamps ops parts.1)

pub first_holds : (a b : Bool) → a ≡ true → (a || b) ≡ true
first_holds true b is = refl
first_holds false b is = absurd (cc)

pub second_holds : (a b : Bool) → b ≡ true → (a || b) ≡ true
second_holds true b is = refl
second_holds false b is = is

-- How long the body of a root is, and where a root with files shows.
use Rattle.std.proofs.Common.{◌≡◌, ◌∙◌, ◌≤◌, ◌<◌, ◌+◌, ◌*◌, ◌↔◌, ℕ, Bool, true, false, not, List, [], ◌∷◌, ◌++◌, Option, MatchOption, IsTrue, inl, inr, refl, ap, length, length-append, arith}
use Rattle.std.specs.Bool.{then_some}
use Rattle.std.proofs.lemmas.Bool.{false≢true}
use Rattle.directory_meaning.specs.Damages.{NamesFiles}
use Rattle.directory_reading.specs.Reading.{IsWithoutFiles}
use Rattle.std.specs.List.{flat_map}
use Rattle.byteorder.specs.Numbers.{length-bytes_high_first}
use Rattle.docs_format.specs.Spelling.{count}
use Rattle.journal_bodies.specs.Roots.{PlainRoot, SpellsRoot, listed, long, numbers, part, root, settings}
use Rattle.journal_bodies.specs.declared.root.PartFiles.{PartFiles}

length-long : (n : ℕ) → length (long n) ≡ 8
unfolding long
length-long n = length-bytes_high_first 8 n

length-count : (n : ℕ) → length (count n) ≡ 4
unfolding count
length-count n = length-bytes_high_first 4 n

length-part : (p : PartFiles) → length (part p) ≡ 28
length-part p =
    omega (
      arith,
      length-append (long p.index ++ long p.documents ++ long p.stamps) (count p.fragments),
      length-append (long p.index ++ long p.documents) (long p.stamps),
      length-append (long p.index) (long p.documents),
      length-long p.index,
      length-long p.documents,
      length-long p.stamps,
      length-count p.fragments,
    )

-- items of one length
length-flat : {X : Type 0} (spelling : X → List ℕ) (n : ℕ) → ((x : X) → length (spelling x) ≡ n) → (xs : List X)
    → length (flat_map spelling xs) ≡ n * length xs
length-flat spelling n each [] = omega arith
length-flat spelling n each (x ∷ xs) =
    let rest : length (flat_map spelling xs) ≡ n * length xs = length-flat spelling n each xs in
    let one : length (spelling x) ≡ n = each x in
    length-append (spelling x) (flat_map spelling xs) ∙ grind arith

-- a list of items of one length
length-listed : {X : Type 0} (spelling : X → List ℕ) (n : ℕ) → ((x : X) → length (spelling x) ≡ n) → (xs : List X)
    → length (listed spelling xs) ≡ 4 + n * length xs
length-listed spelling n each xs =
    omega (
      arith,
      length-append (count (length xs)) (flat_map spelling xs),
      length-count (length xs),
      length-flat spelling n each xs,
    )

-- the fields before the parts, the parts, and the files to be removed
pub length-root : (r : PlainRoot)
    → length (root r)
    ≡ length (3 ∷ numbers r ++ settings r.settings) + (4 + 28 * length r.parts) + (4 + 8 * length r.removed)
length-root r =
    omega (
      arith,
      length-append (3 ∷ numbers r ++ settings r.settings ++ listed part r.parts) (listed long r.removed),
      length-append (3 ∷ numbers r ++ settings r.settings) (listed part r.parts),
      length-listed part 28 length-part r.parts,
      length-listed long 8 length-long r.removed,
    )

-- the fields before the files to be removed
pub length-upto_removed : (r : PlainRoot)
    → length (3 ∷ numbers r ++ settings r.settings ++ listed part r.parts)
    ≡ length (3 ∷ numbers r ++ settings r.settings) + (4 + 28 * length r.parts)
length-upto_removed r =
    omega (
      arith,
      length-append (3 ∷ numbers r ++ settings r.settings) (listed part r.parts),
      length-listed part 28 length-part r.parts,
    )

-- the count of the parts is the first that isn't 0
pub parts_are_named : (body : List ℕ) (r : PlainRoot) (at : ℕ) → SpellsRoot body r → (r.parts ≡ [] → ⊥)
    → at + (4 + 28 * length r.parts) + (4 + 8 * length r.removed) ≡ length body → (at < length body) × NamesFiles r at
parts_are_named body r at s some is =
    let same : length body ≡ length (root r) = ap length s.spelled in
    let whole = length-root r in
    (omega arith, inl (some, omega arith))

-- that of the files to be removed is
pub removed_are_named : (body : List ℕ) (r : PlainRoot) (at : ℕ) → SpellsRoot body r → r.parts ≡ []
    → (r.removed ≡ [] → ⊥)
    → at + (4 + 8 * length r.removed) ≡ length body → (at < length body) × NamesFiles r at
removed_are_named body r at s none some is =
    let same : length body ≡ length (root r) = ap length s.spelled in
    let whole = length-root r in
    let front = length-upto_removed r in
    (omega arith, inr (none, some, omega arith))

-- so much of the body is the list of the files to be removed
pub removed_within : (body : List ℕ) (r : PlainRoot) → SpellsRoot body r → 4 + 8 * length r.removed ≤ length body
removed_within body r s = omega (arith, length-root r, ap length s.spelled)

-- the files to be removed, where there are no parts
pub then_removed : (body : List ℕ) (r : PlainRoot) (empty : Bool) (at : ℕ) (found : Option ℕ) → SpellsRoot body r
    → r.parts ≡ [] → (IsTrue empty ↔ (r.removed ≡ [])) → at + (4 + 8 * length r.removed) ≡ length body
    → found ≡ then_some (not empty) at
    → MatchOption found (IsWithoutFiles r) (λ k. (k < length body) × NamesFiles r k)
then_removed body r true at found s none iff is e = rw e (none, iff.0 refl)
then_removed body r false at found s none iff is e =
    rw e (removed_are_named body r at s none (λ (h : r.removed ≡ []). false≢true (iff.1 h)) is)

-- Numbers of files, each once.
use Rattle.std.proofs.Common.{◌≡◌, ℕ, ◌==◌, true, false, ◌&&◌, not, nat_lt, List, [], ◌∷◌, ◌++◌}
use Rattle.std.proofs.Common.{refl, sym, ap, ◌∙◌, append_assoc, arith}
use Rattle.std.specs.List.{flat_map, list_all}
use Rattle.std.proofs.lemmas.Bool.{and_from, and_parts, or_parts, not-true}
use Rattle.std.proofs.lemmas.Bool.Decides.{nat_tests}
use Rattle.std.proofs.lemmas.Grind.{flat_map-append}
use Rattle.std.proofs.lemmas.List.Folds.{list_all-append, list_any-append}
use Rattle.journal_bodies.specs.Roots.{files_of, has, is_distinct}
use Rattle.journal_bodies.specs.declared.root.PartFiles.{PartFiles}

eq_sym : (a b : ℕ) → (a == b) ≡ (b == a)
eq_sym a b = grind (arith, nat_tests)

-- one more number behind others
pub distinct_push : (files : List ℕ) (n : ℕ) → is_distinct files ≡ true → has files n ≡ false
    → is_distinct (files ++ n ∷ []) ≡ true
distinct_push [] n d f = refl
distinct_push (m ∷ files) n d f =
    let ds = and_parts (not (has files m)) (is_distinct files) d in
    let fs = or_parts (n == m) (has files n) f in
    let other : (m == n) ≡ false = eq_sym m n ∙ fs.0 in
    let fresh : has (files ++ n ∷ []) m ≡ false =
    list_any-append (λ k. m == k) files (n ∷ []) ∙ rw (not-true (has files m) ds.0, other) refl in
    and_from (not (has (files ++ n ∷ []) m)) (is_distinct (files ++ n ∷ [])) (ap not fresh)
    (distinct_push files n ds.1 fs.1)

-- a number among others isn't among those before it
pub distinct_at : (front : List ℕ) (n : ℕ) (back : List ℕ) → is_distinct (front ++ n ∷ back) ≡ true
    → has front n ≡ false
distinct_at [] n back d = refl
distinct_at (m ∷ front) n back d =
    let ds = and_parts (not (has (front ++ n ∷ back) m)) (is_distinct (front ++ n ∷ back)) d in
    let none : has (front ++ n ∷ back) m ≡ false = not-true (has (front ++ n ∷ back) m) ds.0 in
    let parts = or_parts (has front m) (has (n ∷ back) m) (sym (list_any-append (λ k. m == k) front (n ∷ back)) ∙ none) in
    let here = or_parts (m == n) (has back m) parts.1 in
    rw (eq_sym n m, here.0, distinct_at front n back ds.1) refl

-- numbers below the next one, each once
pub record AreFiles (next : ℕ) (files : List ℕ) : Type 0 where
  pub below : list_all (λ n. nat_lt n next) files ≡ true
  pub distinct : is_distinct files ≡ true

pub none_are : (next : ℕ) → AreFiles next []
none_are next = record { below = refl; distinct = refl }

pub files_push : (next : ℕ) (files : List ℕ) (n : ℕ) → AreFiles next files
    → (nat_lt n next && not (has files n)) ≡ true → AreFiles next (files ++ n ∷ [])
files_push next files n a h =
    let hs = and_parts (nat_lt n next) (not (has files n)) h in
    record {
      below =
          list_all-append (λ m. nat_lt m next) files (n ∷ []) ∙ rw (a.below, hs.0) refl;
      distinct = distinct_push files n a.distinct (not-true (has files n) hs.1);
    }

-- the number of such a file may follow those before it
pub files_at : (next : ℕ) (front : List ℕ) (n : ℕ) (back : List ℕ) → AreFiles next (front ++ n ∷ back)
    → (nat_lt n next && not (has front n)) ≡ true
files_at next front n back a =
    let all : (list_all (λ m. nat_lt m next) front && list_all (λ m. nat_lt m next) (n ∷ back)) ≡ true =
    sym (list_all-append (λ m. nat_lt m next) front (n ∷ back)) ∙ a.below in
    let behind = and_parts (list_all (λ m. nat_lt m next) front) (list_all (λ m. nat_lt m next) (n ∷ back)) all in
    let here = and_parts (nat_lt n next) (list_all (λ m. nat_lt m next) back) behind.1 in
    and_from (nat_lt n next) (not (has front n)) here.0 (ap not (distinct_at front n back a.distinct))

-- the files of one part more
pub part_push : (before : List PartFiles) (p : PartFiles)
    → flat_map files_of (before ++ p ∷ [])
    ≡ ((flat_map files_of before ++ p.index ∷ []) ++ p.documents ∷ []) ++ p.stamps ∷ []
part_push before p =
    flat_map-append files_of before (p ∷ [])
    ∙ sym (append_assoc (flat_map files_of before ++ p.index ∷ []) (p.documents ∷ []) (p.stamps ∷ [])
    ∙ append_assoc (flat_map files_of before) (p.index ∷ []) (p.documents ∷ p.stamps ∷ []))

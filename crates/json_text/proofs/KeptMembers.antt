-- Members of which each name's last value counts: no name stands twice, and no value is deeper or larger.
use Rattle.std.proofs.Common.{◌≡◌, ℕ, ◌+◌, ◌≤◌, Bool, true, false, not, cond, List, [], ◌∷◌, length, map, fold, refl, arith}
use Rattle.std.proofs.lemmas.Bool.{and_parts, and_from, or_parts, or_from, not-true, not_from_false}
use Rattle.std.proofs.lemmas.List.Sums.{sum_by-cons}
use Rattle.std.specs.Prelude.{sum_by}
use Rattle.std.specs.List.{list_all}
use Rattle.std.specs.Str.{bytes_eq}
use Rattle.doc_model.specs.Tree.{depth, greatest, has_distinct_names, is_among, is_distinct, size}
use Rattle.json_text.specs.Grammar.{Member, put, last_values}

abbrev pub member_names : List Member → List (List ℕ)
member_names members = map (λ m. m.0) members

-- the names are distinct inside each value
abbrev pub are_distinct_inside : List Member → Bool
are_distinct_inside members = list_all (λ m. has_distinct_names m.1) members

abbrev pub deepest : List Member → ℕ
deepest members = greatest (map (λ m. depth m.1) members)

-- how much a member adds to the size of its object
abbrev pub weight : Member → ℕ
weight m = length m.0 + size m.1

abbrev pub total : List Member → ℕ
total members = sum_by weight members

-- ---- names

among_by : (q : List ℕ) (first member : Member) (others rest : List Member) (t : Bool) →
    is_among (member_names (first ∷ others)) q ≡ false →
    (is_among (member_names others) q ≡ false → is_among (member_names rest) q ≡ false) →
    is_among (member_names (cond t ((first.0, member.1) ∷ others) (first ∷ rest))) q ≡ false
among_by q first member others rest true e more = e
among_by q first member others rest false e more =
    let p = or_parts (bytes_eq q first.0) (is_among (member_names others) q) e in
    or_from (bytes_eq q first.0) (is_among (member_names rest) q) p.0 (more p.1)

-- a name that is neither there nor put isn't there afterwards
among_put : (members : List Member) (member : Member) (q : List ℕ) → is_among (member_names members) q ≡ false →
    bytes_eq q member.0 ≡ false → is_among (member_names (put members member)) q ≡ false
among_put [] member q e other = or_from (bytes_eq q member.0) false other refl
among_put (first ∷ others) member q e other =
    among_by q first member others (put others member) (bytes_eq first.0 member.0) e
    (λ n. among_put others member q n other)

distinct_by : (first member : Member) (others rest : List Member) (t : Bool) → bytes_eq first.0 member.0 ≡ t →
    is_distinct (member_names (first ∷ others)) ≡ true →
    (is_among (member_names others) first.0 ≡ false → bytes_eq first.0 member.0 ≡ false →
    is_among (member_names rest) first.0 ≡ false) →
    (is_distinct (member_names others) ≡ true → is_distinct (member_names rest) ≡ true) →
    is_distinct (member_names (cond t ((first.0, member.1) ∷ others) (first ∷ rest))) ≡ true
distinct_by first member others rest true e d new more = d
distinct_by first member others rest false e d new more =
    let among = is_among (member_names others) first.0 in
    let p = and_parts (not among) (is_distinct (member_names others)) d in
    let none = new (not-true among p.0) e in
    and_from (not (is_among (member_names rest) first.0)) (is_distinct (member_names rest))
    (not_from_false (is_among (member_names rest) first.0) none) (more p.1)

distinct_put : (members : List Member) (member : Member) → is_distinct (member_names members) ≡ true →
    is_distinct (member_names (put members member)) ≡ true
distinct_put [] member d = refl
distinct_put (first ∷ others) member d =
    distinct_by first member others (put others member) (bytes_eq first.0 member.0) refl d
    (λ n other. among_put others member first.0 n other) (λ more. distinct_put others member more)

-- ---- values

inside_by : (first member : Member) (others rest : List Member) (t : Bool) →
    are_distinct_inside (first ∷ others) ≡ true → has_distinct_names member.1 ≡ true →
    (are_distinct_inside others ≡ true → are_distinct_inside rest ≡ true) →
    are_distinct_inside (cond t ((first.0, member.1) ∷ others) (first ∷ rest)) ≡ true
inside_by first member others rest true d value more =
    and_from (has_distinct_names member.1) (are_distinct_inside others) value
    (and_parts (has_distinct_names first.1) (are_distinct_inside others) d).1
inside_by first member others rest false d value more =
    let p = and_parts (has_distinct_names first.1) (are_distinct_inside others) d in
    and_from (has_distinct_names first.1) (are_distinct_inside rest) p.0 (more p.1)

inside_put : (members : List Member) (member : Member) → are_distinct_inside members ≡ true →
    has_distinct_names member.1 ≡ true → are_distinct_inside (put members member) ≡ true
inside_put [] member d value = and_from (has_distinct_names member.1) true value refl
inside_put (first ∷ others) member d value =
    inside_by first member others (put others member) (bytes_eq first.0 member.0) d value
    (λ more. inside_put others member more value)

deep_by : (depths : ℕ) (first member : Member) (others rest : List Member) (t : Bool) →
    deepest (first ∷ others) ≤ depths → depth member.1 ≤ depths → (deepest others ≤ depths → deepest rest ≤ depths) →
    deepest (cond t ((first.0, member.1) ∷ others) (first ∷ rest)) ≤ depths
deep_by depths first member others rest true d value more = omega arith
deep_by depths first member others rest false d value more =
    let behind : deepest rest ≤ depths = more (omega arith) in omega arith

deep_put : (depths : ℕ) (members : List Member) (member : Member) → deepest members ≤ depths →
    depth member.1 ≤ depths → deepest (put members member) ≤ depths
deep_put depths [] member d value = omega arith
deep_put depths (first ∷ others) member d value =
    deep_by depths first member others (put others member) (bytes_eq first.0 member.0) d value
    (λ more. deep_put depths others member more value)

total_by : (first member : Member) (others rest : List Member) (t : Bool) →
    total rest ≤ total others + weight member →
    total (cond t ((first.0, member.1) ∷ others) (first ∷ rest)) ≤ total (first ∷ others) + weight member
total_by first member others rest true more =
    omega (arith, sum_by-cons weight first others, sum_by-cons weight (first.0, member.1) others)
total_by first member others rest false more =
    omega (arith, sum_by-cons weight first others, sum_by-cons weight first rest)

total_put : (members : List Member) (member : Member) → total (put members member) ≤ total members + weight member
total_put [] member = omega (arith, sum_by-cons weight member [])
total_put (first ∷ others) member =
    total_by first member others (put others member) (bytes_eq first.0 member.0) (total_put others member)

-- ---- all members

-- the members of an object that keeps the rules
pub record Kept (depths n : ℕ) (members : List Member) : Type 0 where
  pub distinct : is_distinct (member_names members) ≡ true
  pub inside : are_distinct_inside members ≡ true
  pub deep : deepest members ≤ depths
  pub small : total members ≤ n

kept_put : (depths n : ℕ) (members : List Member) (member : Member) → Kept depths n members →
    has_distinct_names member.1 ≡ true → depth member.1 ≤ depths → Kept depths (n + weight member) (put members member)
kept_put depths n members member k value d = record {
  distinct = distinct_put members member k.distinct;
  inside = inside_put members member k.inside value;
  deep = deep_put depths members member k.deep d;
  small = omega (arith, total_put members member, k.small);
}

kept_all : (depths n : ℕ) (list before : List Member) → Kept depths n before → are_distinct_inside list ≡ true →
    deepest list ≤ depths → Kept depths (n + total list) (fold put before list)
kept_all depths n [] before k inside deep =
    record { distinct = k.distinct; inside = k.inside; deep = k.deep; small = omega (arith, k.small) }
kept_all depths n (m ∷ ms) before k inside deep =
    let p = and_parts (has_distinct_names m.1) (are_distinct_inside ms) inside in
    let here : depth m.1 ≤ depths = omega arith in
    let behind : deepest ms ≤ depths = omega arith in
    let r = kept_all depths (n + weight m) ms (put before m) (kept_put depths n before m k p.0 here) p.1 behind in
    record {
      distinct = r.distinct;
      inside = r.inside;
      deep = r.deep;
      small = omega (arith, r.small, sum_by-cons weight m ms);
    }

none_kept : (depths : ℕ) → Kept depths 0 []
none_kept depths = record { distinct = refl; inside = refl; deep = omega arith; small = omega arith }

-- the last values of members have each name once, and are no deeper and no larger
pub last_kept : (depths : ℕ) (list : List Member) → are_distinct_inside list ≡ true → deepest list ≤ depths →
    Kept depths (total list) (last_values list)
last_kept depths list inside deep =
    let k = kept_all depths 0 list [] (none_kept depths) inside deep in
    record { distinct = k.distinct; inside = k.inside; deep = k.deep; small = omega (arith, k.small) }

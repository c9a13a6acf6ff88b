-- Numbers of which each is below the next.
use Rattle.std.proofs.Common.{◌≡◌, ℕ, zero, suc, ◌+◌, ◌<◌, true, List, [], ◌∷◌, length, get_or, refl, arith, ltb, ltb-true, lt-ltb}
use Rattle.std.proofs.lemmas.Bool.{and_from, and_parts}
use Rattle.std.specs.List.{AllAdjacentBelow}
use Rattle.doc_meaning.specs.Laws.{RisingRises}
use Rattle.doc_meaning.specs.Near.{is_rising}

abbrev Rises : List ℕ → Type 0
Rises ns = AllAdjacentBelow (λ n next. n < next) ns (length ns)

rises_of : (ns : List ℕ) → is_rising ns ≡ true → Rises ns
rises_of [] is k d lt = absurd (omega arith)
rises_of (n ∷ []) is k d lt = absurd (omega arith)
rises_of (n ∷ m ∷ ns) is zero d lt = ltb-true n m (and_parts (ltb n m) (is_rising (m ∷ ns)) is).0
rises_of (n ∷ m ∷ ns) is (suc k) d lt =
    let e : suc k + 1 ≡ suc (k + 1) = omega arith in
    let below : k + 1 < length (m ∷ ns) = omega arith in
    let later : get_or (m ∷ ns) k d < get_or (m ∷ ns) (k + 1) d =
    rises_of (m ∷ ns) (and_parts (ltb n m) (is_rising (m ∷ ns)) is).1 k d below in
    rw e later

rises_behind : (n : ℕ) (ns : List ℕ) → Rises (n ∷ ns) → Rises ns
rises_behind n ns h k d lt =
    let e : suc k + 1 ≡ suc (k + 1) = omega arith in
    let below : suc k + 1 < length (n ∷ ns) = omega arith in
    rw e at (h (suc k) d below)

rises_from : (ns : List ℕ) → Rises ns → is_rising ns ≡ true
rises_from [] h = refl
rises_from (n ∷ []) h = refl
rises_from (n ∷ m ∷ ns) h = and_from _ _ (lt-ltb n m (h 0 0 (omega arith))) (rises_from (m ∷ ns) (rises_behind n (m ∷ ns) h))

pub rising_rises : RisingRises
rising_rises ns = (rises_of ns, rises_from ns)

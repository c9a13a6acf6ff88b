-- The first misplaced entry past the checkpoint is one, and there is none where the journals tell entries.
use Rattle.std.proofs.Common.{◌≡◌, ◌≢◌, ◌⊎◌, inl, inr, ⊎_elim, ℕ, zero, suc, ◌+◌, ◌<◌, ◌≤◌, Bool, true, false, not, cond, ◌==◌, ◌||◌, ◌&&◌, ltb, leb, List, [], ◌∷◌, ◌++◌, length, map, take, Some, None, slice_get, refl, sym, ap, ◌∙◌, subst, arith, append_assoc, length-append}
use Rattle.std.proofs.lemmas.Bool.{cases_order, cond-true, eq-eqb, le-leb, le-ltb, lt-leb, lt-ltb, ne_eqb}
use Rattle.std.proofs.lemmas.List.{append-nil, map-append}
use Rattle.std.proofs.lemmas.List.Elements.{filter-append}
use Rattle.doc_model.specs.declared.entry.Entry.{Entry}
use Rattle.doc_model.specs.declared.entry.Entry.TheVariants.{Commit, Forget}
use Rattle.doc_meaning.specs.History.{AreEntries, merge_after}
use Rattle.journal_bodies.specs.Roots.{PlainRoot}
use Rattle.directory_meaning.specs.Bodies.{Numbered, RiseFrom, by_first_number, other_of, own_of, past}
use Rattle.directory_meaning.specs.Damages.{IsBelow, IsMisplaced, goes_first}
use Rattle.directory_meaning.proofs.Rising.{rise_at}

same_some : {X : Type 0} (x y : X) → Some x ≡ Some y → x ≡ y
same_some x y is = cc

none_some : {X : Type 0} (x : X) → None ≡ Some x → ⊥
none_some x is = cc

-- ---- lists around one of their elements

-- a list is this front, this element, and more
abbrev Splits : {X : Type 0} → List X → List X → X → Type 0
Splits {X} xs front x = (more : List X) × (xs ≡ front ++ x ∷ more)

pub split : {X : Type 0} (k : ℕ) (xs : List X) (x : X) → slice_get xs k ≡ Some x → Splits xs (take k xs) x
split k [] x is = absurd (none_some x is)
split zero (y ∷ xs) x is = (xs, ap (λ z. z ∷ xs) (same_some y x is))
split (suc k) (y ∷ xs) x is = let rest = split k xs x is in (rest.0, ap (λ l. y ∷ l) rest.1)

pub split_take : {X : Type 0} (k to : ℕ) (xs : List X) (x : X) → slice_get xs k ≡ Some x → k < to →
    Splits (take to xs) (take k xs) x
split_take k to [] x is lt = absurd (none_some x is)
split_take k zero (y ∷ xs) x is lt = absurd (omega (arith, lt))
split_take zero (suc to) (y ∷ xs) x is lt = (take to xs, ap (λ z. z ∷ take to xs) (same_some y x is))
split_take (suc k) (suc to) (y ∷ xs) x is lt =
    let rest = split_take k to xs x is (omega (arith, lt)) in (rest.0, ap (λ l. y ∷ l) rest.1)

-- past the checkpoint the same holds of an entry that is there
past_splits : (checkpoint : ℕ) (all front : List Numbered) (e : Numbered) → checkpoint < e.0 → Splits all front e →
    Splits (past checkpoint all) (past checkpoint front) e
past_splits checkpoint all front e late parts = (
  past checkpoint parts.0,
  ap (past checkpoint) parts.1
      ∙ filter-append (λ (d : Numbered). ltb checkpoint d.0) front (e ∷ parts.0)
      ∙ ap (λ l. past checkpoint front ++ l)
      (cond-true (ltb checkpoint e.0) (e ∷ past checkpoint parts.0) (past checkpoint parts.0)
      (lt-ltb checkpoint e.0 late)),
)

behind_splits : (other all front : List Numbered) (e : Numbered) → Splits all front e →
    Splits (other ++ all) (other ++ front) e
behind_splits other all front e parts =
    (parts.0, ap (λ l. other ++ l) parts.1 ∙ sym (append_assoc other front (e ∷ parts.0)))

before_splits : (all front other : List Numbered) (e : Numbered) → Splits all front e → Splits (all ++ other) front e
before_splits all front other e parts =
    (parts.0 ++ other, ap (λ l. l ++ other) parts.1 ∙ append_assoc front (e ∷ parts.0) other)

-- ---- which journal goes first

differs : (n m : ℕ) → n < m → (m == n) ≡ false
differs n m lt = ne_eqb m n (λ same. absurd (omega (arith, same, lt)))

-- of two journals with entries one goes first
opposite : (e f : ℕ) → (ltb f e || ((f == e) && false)) ≡ not (ltb e f || ((e == f) && true))
opposite e f = ⊎_elim
    (λ (same : e ≡ f). rw (
      le-ltb f e (omega (arith, same)),
      le-ltb e f (omega (arith, same)),
      eq-eqb e f same,
      eq-eqb f e (sym same),
    ) refl)
    (λ apart. ⊎_elim
    (λ (lt : e < f). rw (le-ltb f e (omega (arith, lt)), lt-ltb e f lt, differs e f lt) refl)
    (λ (lt : f < e). rw (lt-ltb f e lt, le-ltb e f (omega (arith, lt)), differs f e lt) refl)
    apart)
    (cases_order e f)

not_after : (e f : ℕ) → leb e f ≡ (ltb e f || ((e == f) && true))
not_after e f = ⊎_elim
    (λ (same : e ≡ f). rw (le-leb e f (omega (arith, same)), le-ltb e f (omega (arith, same)), eq-eqb e f same) refl)
    (λ apart. ⊎_elim
    (λ (lt : e < f). rw (le-leb e f (omega (arith, lt)), lt-ltb e f lt) refl)
    (λ (lt : f < e). rw (lt-leb e f lt, le-ltb e f (omega (arith, lt)), differs f e lt) refl)
    apart)
    (cases_order e f)

-- the journals in turn, by which one goes first
abbrev in_order : ℕ → List Numbered → List Numbered → List Numbered
in_order file own other = cond (goes_first file own other) (own ++ other) (other ++ own)

turn_first : (zeros ones : List Numbered) → by_first_number zeros ones ≡ in_order 0 zeros ones
turn_first [] [] = refl
turn_first [] (f ∷ ones) = sym (append-nil (f ∷ ones))
turn_first (e ∷ zeros) [] = refl
turn_first (e ∷ zeros) (f ∷ ones) =
    ap (λ b. cond b ((e ∷ zeros) ++ f ∷ ones) ((f ∷ ones) ++ e ∷ zeros)) (not_after e.0 f.0)

cond_not : {X : Type 0} (b : Bool) (x y : X) → cond b x y ≡ cond (not b) y x
cond_not true x y = refl
cond_not false x y = refl

turn_second : (zeros ones : List Numbered) → by_first_number zeros ones ≡ in_order 1 ones zeros
turn_second [] [] = refl
turn_second [] (f ∷ ones) = sym (append-nil (f ∷ ones))
turn_second (e ∷ zeros) [] = refl
turn_second (e ∷ zeros) (f ∷ ones) =
    turn_first (e ∷ zeros) (f ∷ ones)
    ∙ cond_not (ltb e.0 f.0 || ((e.0 == f.0) && true)) ((e ∷ zeros) ++ f ∷ ones) ((f ∷ ones) ++ e ∷ zeros)
    ∙ ap (λ b. cond b ((f ∷ ones) ++ e ∷ zeros) ((e ∷ zeros) ++ f ∷ ones)) (sym (opposite e.0 f.0))

-- an entry of one journal splits both in turn
order_splits : (first : Bool) (own other front : List Numbered) (e : Numbered) → Splits own front e →
    Splits (cond first (own ++ other) (other ++ own)) (cond first [] other ++ front) e
order_splits true own other front e parts = before_splits own front other e parts
order_splits false own other front e parts = behind_splits other own front e parts

-- and of two entries of two journals one is read before the other
one_is_before : (first : Bool) (own other front back : List Numbered) (e f : Numbered) → Splits own front e →
    Splits other back f →
    Splits (cond (not first) [] own ++ back) (cond first [] other ++ front) e
    ⊎ Splits (cond first [] other ++ front) (cond (not first) [] own ++ back) f
one_is_before true own other front back e f these those = inl (before_splits own front back e these)
one_is_before false own other front back e f these those = inr (before_splits other back front f those)

-- ---- entries that fit

not_below : (at low : ℕ) (es : List Entry) (e : Entry) (more : List Entry) → AreEntries at low (es ++ e ∷ more) →
    IsBelow (merge_after low es) e → ⊥
not_below at low [] (Commit ops) more are below = below
not_below at low [] (Forget to) more are below = omega (arith, are.0, below)
not_below at low (Commit ops ∷ es) e more are below = not_below (at + 1) low es e more are.2 below
not_below at low (Forget to ∷ es) e more are below = not_below (at + 1) to es e more are.2 below

-- entries that follow a root's checkpoint one after the other
pub record Follow (root : PlainRoot) (all : List Numbered) : Type 0 where
  pub rises : RiseFrom (root.checkpoint + 1) all
  pub rules : AreEntries root.checkpoint root.merge (map (λ e. e.1) all)

-- none of them is misplaced
follows : (root : PlainRoot) (file : ℕ) (own other : List Numbered) (k : ℕ) (all : List Numbered)
    (m : IsMisplaced root file own other k) → Follow root all → Splits all m.before m.e → ⊥
follows root file own other k all m follow parts = ⊎_elim
    (λ apart. apart (rise_at (root.checkpoint + 1) m.before m.e parts.0
    (subst (RiseFrom (root.checkpoint + 1)) parts.1 follow.rises)))
    (λ below. not_below root.checkpoint root.merge (map (λ (d : Numbered). d.1) m.before) m.e.1
    (map (λ (d : Numbered). d.1) parts.0)
    (subst (AreEntries root.checkpoint root.merge)
    (ap (map (λ (d : Numbered). d.1)) parts.1 ∙ map-append (λ (d : Numbered). d.1) m.before (m.e ∷ parts.0))
    follow.rules)
    below)
    m.breaks

before_follow : (root : PlainRoot) (file : ℕ) (own other : List Numbered) (k : ℕ)
    (m : IsMisplaced root file own other k) → Follow root m.before
before_follow root file own other k m = record { rises = m.rises; rules = m.rules }

-- ---- the first misplaced entry

-- an entry past the checkpoint splits those of its own journal
own_splits : (root : PlainRoot) (file : ℕ) (own other : List Numbered) (k : ℕ)
    (m : IsMisplaced root file own other k) →
    Splits (past root.checkpoint own) (past root.checkpoint (take k own)) m.e
own_splits root file own other k m =
    past_splits root.checkpoint own (take k own) m.e m.late (split k own m.e m.here)

-- of two misplaced entries of one journal neither is before the other
not_before : (root : PlainRoot) (file : ℕ) (own other : List Numbered) (k j : ℕ)
    (m : IsMisplaced root file own other k) (n : IsMisplaced root file own other j) → k < j → ⊥
not_before root file own other k j m n lt =
    let parts = behind_splits (cond (goes_first file (past root.checkpoint own) (past root.checkpoint other)) []
    (past root.checkpoint other)) _ _ m.e
    (past_splits root.checkpoint (take j own) (take k own) m.e m.late (split_take k j own m.e m.here lt)) in
    follows root file own other k n.before m (before_follow root file own other j n)
    (parts.0, n.read ∙ parts.1 ∙ ap (λ l. l ++ m.e ∷ parts.0) (sym m.read))

same_journal_once : (root : PlainRoot) (file : ℕ) (own other : List Numbered) (k j : ℕ) →
    IsMisplaced root file own other k → IsMisplaced root file own other j → k ≡ j
same_journal_once root file own other k j m n = ⊎_elim
    (λ same. same)
    (λ apart. absurd (⊎_elim
    (λ lt. not_before root file own other k j m n lt)
    (λ lt. not_before root file own other j k n m lt)
    apart))
    (cases_order k j)

-- ---- two journals

not_empty : (xs front : List Numbered) (e : Numbered) → Splits xs front e → xs ≢ []
not_empty xs front e parts none =
    omega (arith, ap length none, ap length parts.1, length-append front (e ∷ parts.0))

firsts_oppose : (zeros ones : List Numbered) → zeros ≢ [] → ones ≢ [] →
    goes_first 1 ones zeros ≡ not (goes_first 0 zeros ones)
firsts_oppose [] ones some more = absurd (some refl)
firsts_oppose (e ∷ zeros) [] some more = absurd (more refl)
firsts_oppose (e ∷ zeros) (f ∷ ones) some more = opposite e.0 f.0

module _ (root : PlainRoot) (entries_0 entries_1 : List Numbered) where
  abbrev zeros : List Numbered
  zeros = past root.checkpoint entries_0

  abbrev ones : List Numbered
  ones = past root.checkpoint entries_1

  -- not both journals have one
  not_both : (k j : ℕ) → IsMisplaced root 0 entries_0 entries_1 k → IsMisplaced root 1 entries_1 entries_0 j → ⊥
  not_both k j m n =
      let these = own_splits root 0 entries_0 entries_1 k m in
      let those = own_splits root 1 entries_1 entries_0 j n in
      let oppose = firsts_oppose zeros ones (not_empty zeros _ m.e these) (not_empty ones _ n.e those) in
      let read : n.before ≡ cond (not (goes_first 0 zeros ones)) [] zeros ++ past root.checkpoint (take j entries_1) =
      n.read ∙ ap (λ g. cond g [] zeros ++ past root.checkpoint (take j entries_1)) oppose in
      ⊎_elim
      (λ parts. follows root 0 entries_0 entries_1 k n.before m (before_follow root 1 entries_1 entries_0 j n)
      (parts.0, read ∙ parts.1 ∙ ap (λ l. l ++ m.e ∷ parts.0) (sym m.read)))
      (λ parts. follows root 1 entries_1 entries_0 j m.before n (before_follow root 0 entries_0 entries_1 k m)
      (parts.0, m.read ∙ parts.1 ∙ ap (λ l. l ++ n.e ∷ parts.0) (sym read)))
      (one_is_before (goes_first 0 zeros ones) zeros ones _ _ m.e n.e these those)

  -- an entry of this journal is misplaced
  abbrev pub Misplaced : ℕ → ℕ → Type 0
  Misplaced file k = IsMisplaced root file (own_of file entries_0 entries_1) (other_of file entries_0 entries_1) k

  pub one_misplaced : (file other k j : ℕ) → file ≤ 1 → other ≤ 1 → Misplaced file k → Misplaced other j →
      (file ≡ other) × (k ≡ j)
  one_misplaced zero zero k j this that m n = (refl, same_journal_once root 0 entries_0 entries_1 k j m n)
  one_misplaced zero (suc zero) k j this that m n = absurd (not_both k j m n)
  one_misplaced (suc zero) zero k j this that m n = absurd (not_both j k n m)
  one_misplaced (suc zero) (suc zero) k j this that m n =
      (refl, same_journal_once root 1 entries_1 entries_0 k j m n)
  one_misplaced (suc (suc file)) other k j this that m n = absurd (omega (arith, this))
  one_misplaced file (suc (suc other)) k j this that m n = absurd (omega (arith, that))

  -- where they follow each other in turn none is
  pub none_misplaced : (file k : ℕ) → file ≤ 1 → Misplaced file k → Follow root (by_first_number zeros ones) → ⊥
  none_misplaced zero k journal m follow =
      let parts =
      order_splits (goes_first 0 zeros ones) zeros ones _ m.e (own_splits root 0 entries_0 entries_1 k m) in
      follows root 0 entries_0 entries_1 k (by_first_number zeros ones) m follow
      (parts.0, turn_first zeros ones ∙ parts.1 ∙ ap (λ l. l ++ m.e ∷ parts.0) (sym m.read))
  none_misplaced (suc zero) k journal m follow =
      let parts =
      order_splits (goes_first 1 ones zeros) ones zeros _ m.e (own_splits root 1 entries_1 entries_0 k m) in
      follows root 1 entries_1 entries_0 k (by_first_number zeros ones) m follow
      (parts.0, turn_second zeros ones ∙ parts.1 ∙ ap (λ l. l ++ m.e ∷ parts.0) (sym m.read))
  none_misplaced (suc (suc file)) k journal m follow = absurd (omega (arith, journal))

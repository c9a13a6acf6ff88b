-- What is read at a place of a list.
use Rattle.std.proofs.Common.{◌≡◌, ℕ, zero, suc, ◌+◌, ◌-◌, ◌^◌, ◌<◌, ◌≤◌, List, [], ◌∷◌, ◌++◌, length, take, drop}
use Rattle.std.proofs.Common.{Option, Some, None, refl, sym, ap, subst, ◌∙◌, add-one, arith}
use Rattle.std.specs.List.{AllByRecursion, slice_get}
use Rattle.std.proofs.lemmas.List.{drop_at, length-append, take-append-drop, take_rest}
use Rattle.std.proofs.lemmas.Option.{same_Some, some_pair_parts}
use Rattle.post_lists.specs.Keeping.{IsAt}
use Rattle.post_lists.specs.Numbers.{digits_at, last_of}
use Rattle.post_lists.specs.Postings.{ArePostings, spelling, spelling_after}
use Rattle.post_lists.proofs.Lists.{number_again, spelling_append}
use Rattle.post_lists.proofs.Rising.{Above, above, above_front, each_back, last_at_most, last_more}

-- ---- places

-- the bytes before and behind the first `n` items
pub spelling_split : (items : List ℕ) (n : ℕ)
    → spelling items ≡ spelling (take n items) ++ spelling_after (last_of 0 (take n items)) (drop n items)
spelling_split items n =
    ap spelling (sym (take-append-drop n items)) ∙ spelling_append 0 (take n items) (drop n items)

module _ (items : List ℕ) (n place last : ℕ) (at : IsAt items n place last) where
  pub rest_at : drop place (spelling items) ≡ spelling_after last (drop n items)
  rest_at =
      ap (drop place) (spelling_split items n)
      ∙ drop_at (spelling (take n items)) (spelling_after (last_of 0 (take n items)) (drop n items)) place
      (sym at.begins)
      ∙ ap (λ (l : ℕ). spelling_after l (drop n items)) (sym at.ends)

  pub place_within : place ≤ length (spelling items)
  place_within =
      omega (
        arith,
        at.begins,
        ap length (spelling_split items n),
        length-append (spelling (take n items)) (spelling_after (last_of 0 (take n items)) (drop n items)),
      )

-- ---- the next item

-- the first number of some items and the bytes behind it
abbrev pub first_of : ℕ → List ℕ → Option (ℕ × List ℕ)
first_of last [] = None
first_of last (x ∷ xs) = Some (x - last, spelling_after x xs)

no_bytes : digits_at 5 [] ≡ None
unfolding digits_at
no_bytes = refl

pub read_first : (last : ℕ) (xs : List ℕ) → AllByRecursion (λ x. x < 2 ^ 32) xs
    → digits_at 5 (spelling_after last xs) ≡ first_of last xs
read_first last [] each = no_bytes
read_first last (x ∷ xs) each = number_again (x - last) (spelling_after x xs) (omega (arith, each.0))

pub read_at : (items : List ℕ) (n place last : ℕ) → ArePostings (2 ^ 32) items → IsAt items n place last
    → digits_at 5 (drop place (spelling items)) ≡ first_of last (drop n items)
read_at items n place last p at =
    let each : AllByRecursion (λ x. x < 2 ^ 32) (drop n items) =
    each_back (2 ^ 32) (take n items) (drop n items)
    (subst (AllByRecursion (λ x. x < 2 ^ 32)) (sym (take-append-drop n items)) p.each) in
    ap (digits_at 5) (rest_at items n place last at) ∙ read_first last (drop n items) each

some_first : (last : ℕ) (xs : List ℕ) (more : ℕ) (rest : List ℕ) → first_of last xs ≡ Some (more, rest)
    → (x : ℕ) × (ys : List ℕ) × (xs ≡ x ∷ ys) × (more ≡ x - last) × (rest ≡ spelling_after x ys)
some_first last [] more rest e = absurd cc
some_first last (x ∷ xs) more rest e =
    let p = some_pair_parts (x - last) more (spelling_after x xs) rest e in
    (x, xs, refl, sym p.0, sym p.1)

none_first : (last : ℕ) (xs : List ℕ) → first_of last xs ≡ None → xs ≡ []
none_first last [] e = refl
none_first last (x ∷ xs) e = absurd cc

pub get_drop : (n : ℕ) (xs : List ℕ) → slice_get (drop n xs) 0 ≡ slice_get xs n
get_drop zero [] = refl
get_drop zero (x ∷ xs) = refl
get_drop (suc n) [] = refl
get_drop (suc n) (x ∷ xs) = get_drop n xs

pub one_further : (n : ℕ) (xs : List ℕ) (x : ℕ) (ys : List ℕ) → drop n xs ≡ x ∷ ys
    → (n < length xs) × (take (suc n) xs ≡ take n xs ++ x ∷ []) × (drop (suc n) xs ≡ ys)
one_further zero [] x ys e = absurd cc
one_further zero (z ∷ zs) x ys e = (omega arith, cc, cc)
one_further (suc n) [] x ys e = absurd cc
one_further (suc n) (z ∷ zs) x ys e =
    let h = one_further n zs x ys e in
    (omega (arith, h.0), ap (λ (front : List ℕ). z ∷ front) h.1, h.2)

-- the cursor goes on with the item that was read
pub record Goes (items : List ℕ) (n place last more : ℕ) (rest : List ℕ) : Type 0 where
  pub few : more < 2 ^ 32
  pub fits : last + more < 2 ^ 32
  pub within : length rest ≤ length (spelling items)
  pub there : n < length items
  pub head : Some (last + more) ≡ slice_get items n
  pub behind : IsAt items (n + 1) (length (spelling items) - length rest) (last + more)

module _ (items : List ℕ) (n place last : ℕ) (p : ArePostings (2 ^ 32) items) (at : IsAt items n place last) where
  pub reads_item : (more : ℕ) (rest : List ℕ) → digits_at 5 (drop place (spelling items)) ≡ Some (more, rest)
      → Goes items n place last more rest
  reads_item more rest e =
      let found = some_first last (drop n items) more rest (sym (read_at items n place last p at) ∙ e) in
      let x : ℕ = found.0 in
      let xs : List ℕ = found.1 in
      let h = one_further n items x xs found.2 in
      let front : List ℕ = take n items in
      let up : Above 0 (front ++ x ∷ []) =
      subst (Above 0) h.1
      (above_front 0 (take (suc n) items) (drop (suc n) items)
      (subst (Above 0) (sym (take-append-drop (suc n) items)) (above items p.rising))) in
      let le : last ≤ x = omega (arith, at.ends, last_at_most 0 0 front x (omega arith) up) in
      let is : last + more ≡ x = omega (arith, found.3, le) in
      let each : AllByRecursion (λ x. x < 2 ^ 32) (x ∷ xs) =
      subst (AllByRecursion (λ x. x < 2 ^ 32)) found.2
      (each_back (2 ^ 32) front (drop n items)
      (subst (AllByRecursion (λ x. x < 2 ^ 32)) (sym (take-append-drop n items)) p.each)) in
      let ends : last_of 0 (take (suc n) items) ≡ x = ap (last_of 0) h.1 ∙ last_more 0 front x in
      let split : spelling items ≡ spelling (take (suc n) items) ++ rest =
      spelling_split items (suc n)
      ∙ ap (λ (l : ℕ). spelling (take (suc n) items) ++ spelling_after l (drop (suc n) items)) ends
      ∙ ap (λ (ys : List ℕ). spelling (take (suc n) items) ++ spelling_after x ys) h.2
      ∙ ap (λ (bytes : List ℕ). spelling (take (suc n) items) ++ bytes) (sym found.4) in
      let lengths : length (spelling items) ≡ length (spelling (take (suc n) items)) + length rest =
      ap length split ∙ length-append (spelling (take (suc n) items)) rest in
      record {
        few = omega (arith, found.3, each.0);
        fits = omega (arith, is, each.0);
        within = omega (arith, lengths);
        there = h.0;
        head = ap Some is ∙ ap (λ (ys : List ℕ). slice_get ys 0) (sym found.2) ∙ get_drop n items;
        behind = rw (add-one) (record {
          there = h.0;
          begins = omega (arith, lengths);
          ends = is ∙ sym ends;
        });
      }

  pub reads_none : digits_at 5 (drop place (spelling items)) ≡ None → (drop n items ≡ []) × (None ≡ slice_get items n)
  reads_none e =
      let none : drop n items ≡ [] = none_first last (drop n items) (sym (read_at items n place last p at) ∙ e) in
      (none, ap (λ (ys : List ℕ). slice_get ys 0) (sym none) ∙ get_drop n items)

-- ---- what a cursor's first item says of what is left

some_left : (n : ℕ) (xs : List ℕ) (x : ℕ) → slice_get xs n ≡ Some x → (ys : List ℕ) × (drop n xs ≡ x ∷ ys)
some_left zero [] x e = absurd cc
some_left zero (y ∷ ys) x e = (ys, ap (λ (z : ℕ). z ∷ ys) (same_Some y x e))
some_left (suc n) [] x e = absurd cc
some_left (suc n) (y ∷ ys) x e = some_left n ys x e

none_left : (n : ℕ) (xs : List ℕ) → slice_get xs n ≡ None → drop n xs ≡ []
none_left zero [] e = refl
none_left zero (y ∷ ys) e = absurd cc
none_left (suc n) [] e = refl
none_left (suc n) (y ∷ ys) e = none_left n ys e

pub seen_some : (n : ℕ) (xs seen : List ℕ) (head : Option ℕ) (x : ℕ) → drop n xs ≡ seen → head ≡ slice_get xs n
    → head ≡ Some x → (ys : List ℕ) × (seen ≡ x ∷ ys)
seen_some n xs seen head x is next e =
    let left = some_left n xs x (sym next ∙ e) in
    (left.0, sym is ∙ left.1)

pub seen_none : (n : ℕ) (xs seen : List ℕ) (head : Option ℕ) → drop n xs ≡ seen → head ≡ slice_get xs n
    → head ≡ None → seen ≡ []
seen_none n xs seen head is next e = sym is ∙ none_left n xs (sym next ∙ e)

-- the bytes from a place on, as code cuts them
pub sliced : (bytes items : List ℕ) (place : ℕ) → bytes ≡ spelling items
    → take (length bytes - place) (drop place bytes) ≡ drop place (spelling items)
sliced bytes items place e = take_rest bytes place ∙ ap (drop place) e

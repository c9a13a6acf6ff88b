-- The first element of a list of lists that passes a test.
use Rattle.std.proofs.Common.{◌≡◌, ℕ, ◌+◌, ◌<◌, Bool, List, flat_map, drop, length, get_or, Some, None, suc, add-one, sym, ap, ◌∙◌}
use Rattle.std.proofs.Math.Seq.{drop-cons}
use Rattle.std.proofs.lemmas.List.Folds.{find-append}
use Rattle.std.specs.List.{find}
use Rattle.std.specs.Option.{option_or}

module _ {X A : Type 0} (p : A → Bool) (f : X → List A) where
  find_from : (xs : List X) (i : ℕ) (x : X) → i < length xs → x ≡ get_or xs i x →
      find p (flat_map f (drop i xs)) ≡ option_or (find p (f x)) (find p (flat_map f (drop (i + 1) xs)))
  find_from xs i x lt is =
      ap (λ ys. find p (flat_map f ys)) (drop-cons xs i x lt) ∙ find-append p (f (get_or xs i x)) (flat_map f (drop (suc i) xs))
      ∙ ap (λ y. option_or (find p (f y)) (find p (flat_map f (drop (suc i) xs)))) (sym is)
      ∙ ap (λ n. option_or (find p (f x)) (find p (flat_map f (drop n xs)))) (sym (add-one i))

  -- it isn't in the next list
  pub find_past : (xs : List X) (i : ℕ) (x : X) → i < length xs → x ≡ get_or xs i x → find p (f x) ≡ None →
      find p (flat_map f (drop (i + 1) xs)) ≡ find p (flat_map f (drop i xs))
  find_past xs i x lt is none = sym (find_from xs i x lt is ∙ ap (λ o. option_or o (find p (flat_map f (drop (i + 1) xs)))) none)

  -- it is in the next list
  pub find_here : (xs : List X) (i : ℕ) (x : X) (a : A) → i < length xs → x ≡ get_or xs i x → find p (f x) ≡ Some a →
      find p (flat_map f (drop i xs)) ≡ Some a
  find_here xs i x a lt is some = find_from xs i x lt is ∙ ap (λ o. option_or o (find p (flat_map f (drop (i + 1) xs)))) some

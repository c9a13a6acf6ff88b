-- The names that a map has.
use Rattle.std.proofs.Common.{◌≡◌, ℕ, Bool, true, false, cond, ◌||◌, not, List, [], ◌∷◌, ◌++◌, Option, Some}
use Rattle.std.proofs.Common.{is_some, refl, sym, ap, ◌∙◌}
use Rattle.std.proofs.lemmas.List.Folds.{list_any-append}
use Rattle.std.proofs.lemmas.Map.Text.{btree_map_updates_str}
use Rattle.std.proofs.lemmas.Slice.Eq.{bytes_eq-Decides}
use Rattle.std.specs.Borrow.{Bor}
use Rattle.std.specs.BTreeMap.{BTreeMap, UpdatesBy, get_by}
use Rattle.std.specs.Cmp.Lexicographic.{slice_cmp}
use Rattle.std.specs.Ordering.{nat_cmp}
use Rattle.std.specs.Str.{bytes_eq}
use Rattle.doc_model.specs.Tree.{is_among}
use Rattle.docs_format.specs.Answers.{HasNames}

both_ways : (a b : Bool) → (a ≡ true → b ≡ true) → (b ≡ true → a ≡ true) → a ≡ b
both_ways true b f g = sym (f refl)
both_ways false true f g = g refl
both_ways false false f g = refl

pub bytes_eq-sym : (xs ys : List ℕ) → bytes_eq xs ys ≡ bytes_eq ys xs
bytes_eq-sym xs ys =
    both_ways (bytes_eq xs ys) (bytes_eq ys xs) (λ h. (bytes_eq-Decides ys xs).1 (sym ((bytes_eq-Decides xs ys).0 h)))
    (λ h. (bytes_eq-Decides xs ys).1 (sym ((bytes_eq-Decides ys xs).0 h)))

some_or : (b seen : Bool) (o : Option (Unit {0})) → is_some o ≡ seen
    → is_some (cond b (Some tt) o) ≡ (seen || (b || false))
some_or true true o h = refl
some_or true false o h = refl
some_or false true o h = h
some_or false false o h = h

-- a name that is put into the map is one more
pub one_more : (m n : BTreeMap (Bor (List ℕ)) (Unit {0})) (before : List (List ℕ)) (name : List ℕ)
    → UpdatesBy (λ a b. slice_cmp nat_cmp a.now b.now) (λ k. slice_cmp nat_cmp name k.now) m n (Some tt)
    → HasNames m before → HasNames n (before ++ name ∷ [])
one_more m n before name updates had other =
    ap is_some (btree_map_updates_str name m n (Some tt) updates other)
    ∙ some_or (bytes_eq name other) (is_among before other) (get_by (λ k. slice_cmp nat_cmp other k.now) m) (had other)
    ∙ ap (λ b. is_among before other || (b || false)) (bytes_eq-sym name other)
    ∙ sym (list_any-append (bytes_eq other) before (name ∷ []))

pub not_so : (fresh noted before : Bool) → noted ≡ not fresh → noted ≡ before → fresh ≡ not before
not_so true noted before e h = ap not (sym e ∙ h)
not_so false noted before e h = ap not (sym e ∙ h)

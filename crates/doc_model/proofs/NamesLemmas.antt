-- Names of which none occurs twice, one name after another.
use Rattle.std.proofs.Common.{◌≡◌, ℕ, Bool, true, false, cond, ◌&&◌, ◌||◌, not, List, [], ◌∷◌, ◌<◌, ◌+◌, map, drop, length, get_or, Option, Some, is_some, suc, add-one, refl, sym, ap, ◌∙◌}
use Rattle.std.proofs.Math.Seq.{drop-cons}
use Rattle.std.proofs.lemmas.Map.Text.{btree_map_updates_str}
use Rattle.std.specs.BTreeMap.{BTreeMap, UpdatesBy, get_by}
use Rattle.std.specs.Cmp.Lexicographic.{slice_cmp}
use Rattle.std.specs.List.{list_all}
use Rattle.std.specs.Ordering.{nat_cmp}
use Rattle.std.specs.Str.{bytes_eq}
use Rattle.doc_model.specs.Tree.{is_among, is_distinct, has_distinct_names, names_step}
use denote.Ref.{Bor}
use Rattle.doc_model.specs.declared.node.Node.{Node}
use Rattle.doc_model.specs.declared.node.Node.TheVariants as node
use Rattle.doc_model.specs.declared.node.Node.TheOpen.{Node-F}
use Rattle.doc_model.specs.declared.node.Node.TheFolds.{fold-roll-Node}
use Rattle.std.proofs.lemmas.List.Folds.{list_all-map}

-- none of the names was seen, and none occurs twice
abbrev pub are_fresh : (List ℕ → Bool) → List (List ℕ) → Bool
are_fresh seen [] = true
are_fresh seen (name ∷ names) = not (seen name) && are_fresh (λ other. bytes_eq name other || seen other) names

swap_one : (a b p q : Bool) → (not (a || b) && (not p && q)) ≡ (not (a || p) && (not b && q))
swap_one true b p q = refl
swap_one false true true q = refl
swap_one false true false q = refl
swap_one false false p q = refl

none_of_both : (name : List ℕ) (seen : List ℕ → Bool) (names : List (List ℕ)) →
    list_all (λ other. not (bytes_eq name other || seen other)) names ≡ (not (is_among names name) && list_all
    (λ other. not (seen other)) names)
none_of_both name seen [] = refl
none_of_both name seen (other ∷ names) =
    ap (λ b. not (bytes_eq name other || seen other) && b) (none_of_both name seen names)
    ∙ swap_one (bytes_eq name other) (seen other) (is_among names name) (list_all (λ o. not (seen o)) names)

swap_two : (s p q d : Bool) → (not s && ((not p && q) && d)) ≡ ((not s && q) && (not p && d))
swap_two true p q d = refl
swap_two false true true d = refl
swap_two false true false d = refl
swap_two false false true d = refl
swap_two false false false d = refl

fresh_is : (seen : List ℕ → Bool) (names : List (List ℕ)) →
    are_fresh seen names ≡ (list_all (λ name. not (seen name)) names && is_distinct names)
fresh_is seen [] = refl
fresh_is seen (name ∷ names) =
    ap (λ b. not (seen name) && b) (fresh_is (λ other. bytes_eq name other || seen other) names)
    ∙ ap (λ b. not (seen name) && (b && is_distinct names)) (none_of_both name seen names)
    ∙ swap_two (seen name) (is_among names name) (list_all (λ o. not (seen o)) names) (is_distinct names)

all_true : (names : List (List ℕ)) → list_all (λ name. true) names ≡ true
all_true [] = refl
all_true (name ∷ names) = all_true names

-- at first none was seen
pub fresh_first : (names : List (List ℕ)) → are_fresh (λ name. false) names ≡ is_distinct names
fresh_first names = fresh_is (λ name. false) names ∙ ap (λ b. b && is_distinct names) (all_true names)

pub fresh_same : (f g : List ℕ → Bool) (names : List (List ℕ)) → ((name : List ℕ) → f name ≡ g name) →
    are_fresh f names ≡ are_fresh g names
fresh_same f g [] h = refl
fresh_same f g (name ∷ names) h =
    ap (λ b. not b && are_fresh (λ other. bytes_eq name other || f other) names) (h name)
    ∙ ap (λ b. not (g name) && b) (fresh_same (λ other. bytes_eq name other || f other)
    (λ other. bytes_eq name other || g other) names (λ other. ap (λ b. bytes_eq name other || b) (h other)))

module _ {X : Type 0} where
  -- the map has the name among its keys
  abbrev pub has_name : BTreeMap (Bor (List ℕ)) X → List ℕ → Bool
  has_name m name = is_some (get_by (λ k. slice_cmp nat_cmp name k.now) m)

  some_or : (b : Bool) (x : X) (o : Option X) → is_some (cond b (Some x) o) ≡ (b || is_some o)
  some_or true x o = refl
  some_or false x o = refl

  module _ {M : Type 0} (name_of : M → List ℕ) where
    -- the next name wasn't seen, and is from now on
    pub fresh_more : (ms : List M) (i : ℕ) (item : M) (name : List ℕ) (m n : BTreeMap (Bor (List ℕ)) X) (x : X) →
        i < length ms → item ≡ get_or ms i item → name ≡ name_of item →
        has_name m name ≡ false → UpdatesBy (λ a b. slice_cmp nat_cmp a.now b.now) (λ k. slice_cmp nat_cmp name k.now)
        m n (Some x) →
        are_fresh (has_name n) (map name_of (drop (i + 1) ms)) ≡ are_fresh (has_name m) (map name_of (drop i ms))
    fresh_more ms i item name m n x lt is named new updates =
        ap (λ j. are_fresh (has_name n) (map name_of (drop j ms))) (add-one i)
        ∙ fresh_same (has_name n) (λ other. bytes_eq name other || has_name m other) (map name_of (drop (suc i) ms))
        (λ other. ap is_some (btree_map_updates_str name m n (Some x) updates other) ∙ some_or (bytes_eq name other) x
        (get_by (λ k. slice_cmp nat_cmp other k.now) m))
        ∙ ap (λ b. not b && are_fresh (λ other. bytes_eq name other || has_name m other)
        (map name_of (drop (suc i) ms))) (sym new)
        ∙ ap (λ k. not (has_name m k) && are_fresh (λ other. bytes_eq k other || has_name m other)
        (map name_of (drop (suc i) ms))) (named ∙ ap name_of is)
        ∙ ap (λ rest. are_fresh (has_name m) (map name_of rest)) (sym (drop-cons ms i item lt))

    -- the next name was seen
    pub stale_here : (ms : List M) (i : ℕ) (item : M) (name : List ℕ) (m : BTreeMap (Bor (List ℕ)) X) →
        i < length ms → item ≡ get_or ms i item → name ≡ name_of item →
        has_name m name ≡ true → are_fresh (has_name m) (map name_of (drop i ms)) ≡ false
    stale_here ms i item name m lt is named old =
        ap (λ rest. are_fresh (has_name m) (map name_of rest)) (drop-cons ms i item lt)
        ∙ ap (λ k. not (has_name m k) && are_fresh (λ other. bytes_eq k other || has_name m other)
        (map name_of (drop (suc i) ms))) (sym (named ∙ ap name_of is))
        ∙ ap (λ b. not b && are_fresh (λ other. bytes_eq name other || has_name m other) (map name_of (drop (suc i) ms))) old

map-map : {A B C : Type 0} (f : B → C) (g : A → B) (xs : List A) → map f (map g xs) ≡ map (λ x. f (g x)) xs
map-map f g [] = refl
map-map f g (x ∷ xs) = ap (λ rest. f (g x) ∷ rest) (map-map f g xs)

pub names_items : (items : List Node) → has_distinct_names (node.Items items) ≡ list_all has_distinct_names items
names_items items = ap has_distinct_names (sym (node.rolls-Items items)) ∙ fold-roll-Node Bool names_step
    (Node-F.Items items) ∙ list_all-map (λ item. item) has_distinct_names items

pub names_members : (members : List (List ℕ × Node)) →
    has_distinct_names (node.Members members) ≡ (is_distinct (map (λ m. m.0) members) && list_all
    (λ m. has_distinct_names m.1) members)
names_members members =
    ap has_distinct_names (sym (node.rolls-Members members)) ∙ fold-roll-Node Bool names_step (Node-F.Members members)
    ∙ ap (λ names. is_distinct names && list_all (λ (m : List ℕ × Bool). m.1)
    (map (λ (m : List ℕ × Node). (m.0, has_distinct_names m.1)) members))
    (map-map (λ (m : List ℕ × Bool). m.0) (λ (m : List ℕ × Node). (m.0, has_distinct_names m.1)) members)
    ∙ ap (λ b. is_distinct (map (λ m. m.0) members) && b)
    (list_all-map (λ (m : List ℕ × Bool). m.1) (λ (m : List ℕ × Node). (m.0, has_distinct_names m.1)) members)

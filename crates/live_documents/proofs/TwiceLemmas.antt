-- The URIs that were met so far, and those that are named twice.
use Rattle.std.proofs.Common.{◌≡◌, ℕ, ◌+◌, ◌<◌, ◌≤◌, Bool, true, false, cond, not, ◌||◌, List, [], ◌∷◌, ◌++◌, map, arith}
use Rattle.std.proofs.Common.{length, take, drop, get_or, Some, None, IsTrue, bytes_eq, refl, sym, ap, ◌∙◌}
use Rattle.std.proofs.lemmas.Bool.{not-false, not-true}
use Rattle.std.proofs.lemmas.Cmp.{nat_list_eq_equiv}
use Rattle.std.proofs.lemmas.List.{drop_more, map-append, take_more}
use Rattle.std.proofs.lemmas.List.Folds.{list_any-append}
use Rattle.std.proofs.lemmas.Map.Text.{is_eq-slice_cmp}
use Rattle.std.specs.Borrow.{Bor}
use Rattle.std.specs.BTreeSet.{BTreeSet, UpdatesBy, contains_by}
use Rattle.std.specs.Cmp.Lexicographic.{slice_cmp}
use Rattle.std.specs.Ordering.{nat_cmp}
use Rattle.doc_model.specs.Operations.{uri_of}
use Rattle.doc_model.specs.Tree.{is_among, is_distinct}
use Rattle.doc_model.specs.declared.op.Op.{Op}
use Rattle.doc_meaning.specs.Replies.{first_twice}

-- the set has these URIs
abbrev pub HasUris : BTreeSet (Bor (List ℕ)) → List (List ℕ) → Type 0
HasUris met uris = (uri : List ℕ) → contains_by (λ key. slice_cmp nat_cmp uri key.now) met ≡ is_among uris uri

one_of : (here : Bool) (seen : Bool) → cond here true seen ≡ (seen || (here || false))
one_of true true = refl
one_of true false = refl
one_of false true = refl
one_of false false = refl

-- a URI that is put into the set is one more
pub one_more : (met new : BTreeSet (Bor (List ℕ))) (uris : List (List ℕ)) (uri : List ℕ) →
    UpdatesBy (λ a b. slice_cmp nat_cmp a.now b.now) (λ key. slice_cmp nat_cmp uri key.now) met new true →
    HasUris met uris → HasUris new (uris ++ uri ∷ [])
one_more met new uris uri updates had other =
    updates.0 (record { ref_ptr = (0, 0); now = other })
    ∙ ap (λ b. cond b true (contains_by (λ key. slice_cmp nat_cmp other key.now) met))
    (is_eq-slice_cmp uri other ∙ nat_list_eq_equiv.symm uri other)
    ∙ ap (cond (bytes_eq other uri) true) (had other)
    ∙ one_of (bytes_eq other uri) (is_among uris other)
    ∙ sym (list_any-append (bytes_eq other) uris (uri ∷ []))

-- one operation further
module _ (ops : List Op) (i : ℕ) (op : Op) (within : i < length ops) (here : op ≡ get_or ops i op) where
  pub named_more : map uri_of (take (i + 1) ops) ≡ map uri_of (take i ops) ++ uri_of op ∷ []
  named_more =
      ap (map uri_of) (take_more ops i op within) ∙ map-append uri_of (take i ops) (get_or ops i op ∷ [])
      ∙ ap (λ o. map uri_of (take i ops) ++ uri_of o ∷ []) (sym here)

  pub first_twice-more : first_twice (map uri_of (take i ops)) (map uri_of (drop i ops))
      ≡ cond (is_among (map uri_of (take i ops)) (uri_of op)) (Some (uri_of op))
      (first_twice (map uri_of (take (i + 1) ops)) (map uri_of (drop (i + 1) ops)))
  first_twice-more =
      ap (λ os. first_twice (map uri_of (take i ops)) (map uri_of os)) (drop_more ops i op within)
      ∙ ap (λ o. first_twice (map uri_of (take i ops)) (uri_of o ∷ map uri_of (drop (i + 1) ops))) (sym here)
      ∙ ap (λ us. cond (is_among (map uri_of (take i ops)) (uri_of op)) (Some (uri_of op))
      (first_twice us (map uri_of (drop (i + 1) ops))))
      (sym named_more)

-- what the set told of a URI
module _ {added has among : Bool} (told : added ≡ not has) (known : has ≡ among) where
  pub was_met : added ≡ false → among ≡ true
  was_met is = not-false _ (sym (ap not known) ∙ sym told ∙ is)

  pub was_new : added ≡ true → among ≡ false
  was_new is = not-true _ (sym (ap not known) ∙ sym told ∙ is)

-- the names of one operation alone: none occurs twice
pub one_names_once : (ops : List Op) → 1 ≤ length ops → length ops < 2 →
    (None ≡ first_twice [] (map uri_of ops)) × IsTrue (is_distinct (map uri_of ops))
one_names_once [] some few = absurd (omega arith)
one_names_once (op ∷ []) some few = (refl, refl)
one_names_once (op ∷ next ∷ others) some few = absurd (omega arith)

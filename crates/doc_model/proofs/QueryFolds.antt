-- The rules of a query from those of its children.
use Rattle.std.proofs.Common.{◌≡◌, ℕ, ◌+◌, ◌&&◌, Bool, true, false, not, List, ◌++◌, map, refl, sym, ap, ◌∙◌, sum_by, flat_map, append-nil}
use Rattle.std.proofs.lemmas.List.Folds.{list_all-map, flat_map-map}
use Rattle.std.proofs.lemmas.List.Sums.{sum-map}
use Rattle.std.specs.List.{list_all}
use Rattle.doc_model.specs.declared.query.Query.{Query}
use Rattle.doc_model.specs.declared.query.Query.TheVariants as query
use Rattle.doc_model.specs.declared.query.Query.TheOpen.{Query-F}
use Rattle.doc_model.specs.declared.query.Query.TheFolds.{fold-roll-Query}
use Rattle.doc_model.specs.Queries.{query_depth, depth_step, query_count, count_step, wanted_indexes, indexes_step, Index, directories_end, directories_step, ends_with_slash, fits, fits_step}
use Rattle.doc_model.specs.Tree.{greatest}

pub depth_near : (qs : List Query) (d : ℕ) (o : Bool) → query_depth (query.Near qs d o) ≡ 1 + greatest (map query_depth qs)
depth_near qs d o = ap query_depth (sym (query.rolls-Near qs d o)) ∙ fold-roll-Query ℕ depth_step (Query-F.Near qs d o)

pub count_near : (qs : List Query) (d : ℕ) (o : Bool) → query_count (query.Near qs d o) ≡ 1 + 0 + sum_by query_count qs
count_near qs d o = ap query_count (sym (query.rolls-Near qs d o)) ∙ fold-roll-Query ℕ count_step
    (Query-F.Near qs d o) ∙ ap (λ n. 1 + 0 + n) (sum-map query_count qs)

pub directories_and : (qs : List Query) → directories_end (query.And qs) ≡ list_all directories_end qs
directories_and qs = ap directories_end (sym (query.rolls-And qs)) ∙ fold-roll-Query Bool directories_step
    (Query-F.And qs) ∙ list_all-map (λ b. b) directories_end qs

pub directories_or : (qs : List Query) → directories_end (query.Or qs) ≡ list_all directories_end qs
directories_or qs = ap directories_end (sym (query.rolls-Or qs)) ∙ fold-roll-Query Bool directories_step
    (Query-F.Or qs) ∙ list_all-map (λ b. b) directories_end qs

pub directories_near : (qs : List Query) (d : ℕ) (o : Bool) → directories_end (query.Near qs d o) ≡ list_all directories_end qs
directories_near qs d o = ap directories_end (sym (query.rolls-Near qs d o)) ∙ fold-roll-Query Bool directories_step
    (Query-F.Near qs d o) ∙ list_all-map (λ b. b) directories_end qs

and-true : (b : Bool) → (b && true) ≡ b
and-true true = refl
and-true false = refl

pub directories_directory : (uris : List (List ℕ)) (infinite : Bool) →
    directories_end (query.Directory uris infinite) ≡ list_all ends_with_slash uris
directories_directory uris infinite = ap directories_end (sym (query.rolls-Directory uris infinite)) ∙
    fold-roll-Query Bool directories_step (Query-F.Directory uris infinite) ∙ and-true (list_all ends_with_slash uris)

pub fits_or : (qs : List Query) (in_near : Bool) → fits (query.Or qs) in_near ≡ list_all (λ q. fits q in_near) qs
fits_or qs in_near =
    ap (λ q. fits q in_near) (sym (query.rolls-Or qs))
    ∙ ap (λ f. f in_near) (fold-roll-Query (Bool → Bool) fits_step (Query-F.Or qs))
    ∙ list_all-map (λ child. child in_near) fits qs

pub fits_and : (qs : List Query) (in_near : Bool) →
    fits (query.And qs) in_near ≡ (not in_near && list_all (λ q. fits q false) qs)
fits_and qs in_near =
    ap (λ q. fits q in_near) (sym (query.rolls-And qs))
    ∙ ap (λ f. f in_near) (fold-roll-Query (Bool → Bool) fits_step (Query-F.And qs))
    ∙ ap (λ b. not in_near && b) (list_all-map (λ child. child false) fits qs)

pub fits_near : (qs : List Query) (d : ℕ) (o in_near : Bool) →
    fits (query.Near qs d o) in_near ≡ (not in_near && list_all (λ q. fits q true) qs)
fits_near qs d o in_near =
    ap (λ q. fits q in_near) (sym (query.rolls-Near qs d o))
    ∙ ap (λ f. f in_near) (fold-roll-Query (Bool → Bool) fits_step (Query-F.Near qs d o))
    ∙ ap (λ b. not in_near && b) (list_all-map (λ child. child true) fits qs)

pub wanted_and : (qs : List Query) → wanted_indexes (query.And qs) ≡ flat_map wanted_indexes qs
wanted_and qs = ap wanted_indexes (sym (query.rolls-And qs)) ∙ fold-roll-Query (List Index) indexes_step
    (Query-F.And qs) ∙ flat_map-map (λ child. child) wanted_indexes qs

pub wanted_or : (qs : List Query) → wanted_indexes (query.Or qs) ≡ flat_map wanted_indexes qs
wanted_or qs = ap wanted_indexes (sym (query.rolls-Or qs)) ∙ fold-roll-Query (List Index) indexes_step
    (Query-F.Or qs) ∙ flat_map-map (λ child. child) wanted_indexes qs

pub wanted_near : (qs : List Query) (d : ℕ) (o : Bool) → wanted_indexes (query.Near qs d o) ≡ flat_map wanted_indexes qs
wanted_near qs d o = ap wanted_indexes (sym (query.rolls-Near qs d o)) ∙ fold-roll-Query (List Index) indexes_step
    (Query-F.Near qs d o) ∙ flat_map-map (λ child. child) wanted_indexes qs

pub wanted_and_not : (p n : Query) → wanted_indexes (query.AndNot p n) ≡ wanted_indexes p ++ wanted_indexes n
wanted_and_not p n =
    ap wanted_indexes (sym (query.rolls-AndNot p n)) ∙ fold-roll-Query (List Index) indexes_step (Query-F.AndNot p n)
    ∙ ap (λ rest. wanted_indexes p ++ rest) (append-nil (wanted_indexes n))

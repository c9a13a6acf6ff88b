-- The canonical text of a query is read as that query.
use Rattle.std.proofs.Common.{◌≡◌, ℕ, zero, suc, ◌+◌, ◌≤◌, ◌&&◌, Bool, true, List, [], ◌∷◌, map, refl, sym, ap, subst, ◌∙◌, arith}
use Rattle.std.proofs.lemmas.Bool.{and_from, and_parts, leb-true}
use Rattle.std.proofs.lemmas.List.Folds.{list_all-map}
use Rattle.std.specs.Prelude.{IsTrue, nat_le}
use Rattle.std.specs.List.{list_all}
use Rattle.doc_model.specs.Queries.{children, depth_step, query_depth}
use Rattle.doc_model.specs.Tree.{greatest, has_distinct_names}
use Rattle.doc_model.specs.declared.node.Node.{Node}
use Rattle.doc_model.specs.declared.query.Query.{Query, map-Query}
use Rattle.doc_model.specs.declared.query.Query.TheFolds.{fold-roll-Query, ind-Query}
use Rattle.doc_model.specs.declared.query.Query.TheOpen.{Query-F}
use Rattle.doc_model.specs.declared.query.Query.TheVariants as query
use Rattle.doc_model.specs.declared.query.Query.TheViews.{roll-Query}
use Rattle.json_text.proofs.WrittenUtf8.{canonical_texts_are_read as trees_are_read}
use Rattle.cts_meaning.specs.Canonical.{comparables_step, distances_step, has_comparables, has_distances, query_node, query_step}
use Rattle.cts_meaning.specs.Laws.{CanonicalTextsAreRead}
use Rattle.cts_meaning.specs.Saying.{IsQuery}
use Rattle.cts_meaning.specs.Shapes.{greatest_distance}
use Rattle.cts_meaning.proofs.CanonicalForms.{collection_sound, directory_sound, document_sound, prop_value_sound, prop_word_sound, range_sound, word_sound}
use Rattle.cts_meaning.proofs.CanonicalParents.{AreSound, and_not_sound, and_sound, false_sound, near_sound, not_sound, or_sound, true_sound}
use Rattle.cts_meaning.proofs.Entries.{IsSound}

-- a query that may be written, in which at most so many enclose each other
record MayBeWritten (room : ℕ) (q : Query) : Type 0 where
  nests : query_depth q ≤ room
  comparables : has_comparables q ≡ true
  distances : has_distances q ≡ true

-- and all of some
record MayAll (room : ℕ) (queries : List Query) : Type 0 where
  nest : greatest (map query_depth queries) ≤ room
  comparables : list_all has_comparables queries ≡ true
  distances : list_all has_distances queries ≡ true

IsWritten : ℕ → Query → Type 0
IsWritten room q = MayBeWritten room q → IsSound room (query_node q) q

all_written : (room : ℕ) → ((q : Query) → IsWritten room q) → (queries : List Query) → MayAll room queries →
    AreSound room (map query_node queries) queries
unfolding IsWritten
all_written room written [] may = record { clean = tt; says = tt; names = refl }
all_written room written (q ∷ queries) may =
    let nest = may.nest in
    let comparables = and_parts (has_comparables q) (list_all has_comparables queries) may.comparables in
    let distances = and_parts (has_distances q) (list_all has_distances queries) may.distances in
    let here : MayBeWritten room q =
    record { nests = omega (arith, nest); comparables = comparables.0; distances = distances.0 } in
    let sound = written q here in
    let more = all_written room written queries
    (record { nest = omega (arith, nest); comparables = comparables.1; distances = distances.1 }) in
    record {
      clean = (sound.clean, more.clean);
      says = (sound.says, more.says);
      names = and_from (has_distinct_names (query_node q)) (list_all has_distinct_names (map query_node queries))
          sound.names more.names;
    }

-- a layer that may be written
record MayRoll (room : ℕ) (z : Query-F Query) : Type 0 where
  nests : 1 + greatest (children (map-Query Query ℕ query_depth z)) ≤ suc room
  comparables : comparables_step (map-Query Query Bool has_comparables z) ≡ true
  distances : distances_step (map-Query Query Bool has_distances z) ≡ true

rolls_from : (room : ℕ) (z : Query-F Query) → MayBeWritten (suc room) (roll-Query z) → MayRoll room z
rolls_from room z may = record {
  nests = subst (λ (k : ℕ). k ≤ suc room) (fold-roll-Query ℕ depth_step z) may.nests;
  comparables = sym (fold-roll-Query Bool comparables_step z) ∙ may.comparables;
  distances = sym (fold-roll-Query Bool distances_step z) ∙ may.distances;
}

children_may : (room : ℕ) (queries : List Query) → 1 + greatest (map query_depth queries) ≤ suc room →
    list_all (λ child. child) (map has_comparables queries) ≡ true →
    list_all (λ child. child) (map has_distances queries) ≡ true → MayAll room queries
children_may room queries nest comparables distances = record {
  nest = omega (arith, nest);
  comparables = sym (list_all-map (λ (child : Bool). child) has_comparables queries) ∙ comparables;
  distances = sym (list_all-map (λ (child : Bool). child) has_distances queries) ∙ distances;
}

layer_written : (room : ℕ) → ((q : Query) → IsWritten room q) → (z : Query-F Query) → MayRoll room z →
    IsSound (suc room) (query_step (map-Query Query Node query_node z)) (roll-Query z)
unfolding IsWritten
layer_written room written Query-F.True may =
    subst (IsSound (suc room) (query_step Query-F.True)) (sym query.rolls-True) (true_sound room)
layer_written room written Query-F.False may =
    subst (IsSound (suc room) (query_step Query-F.False)) (sym query.rolls-False) (false_sound room)
layer_written room written (Query-F.And queries) may =
    let all = children_may room queries may.nests may.comparables may.distances in
    let nodes = map query_node queries in
    subst (IsSound (suc room) (query_step (Query-F.And nodes))) (sym (query.rolls-And queries))
    (and_sound room nodes queries (all_written room written queries all))
layer_written room written (Query-F.Or queries) may =
    let all = children_may room queries may.nests may.comparables may.distances in
    let nodes = map query_node queries in
    subst (IsSound (suc room) (query_step (Query-F.Or nodes))) (sym (query.rolls-Or queries))
    (or_sound room nodes queries (all_written room written queries all))
layer_written room written (Query-F.Not q) may =
    let nests = may.nests in
    let child = written q (record {
      nests = omega (arith, nests);
      comparables = (and_parts (has_comparables q) true may.comparables).0;
      distances = (and_parts (has_distances q) true may.distances).0;
    }) in
    subst (IsSound (suc room) (query_step (Query-F.Not (query_node q)))) (sym (query.rolls-Not q))
    (not_sound room (query_node q) q child)
layer_written room written (Query-F.AndNot positive negative) may =
    let nests = may.nests in
    let comparables = and_parts (has_comparables positive) (has_comparables negative && true) may.comparables in
    let distances = and_parts (has_distances positive) (has_distances negative && true) may.distances in
    let first = written positive
    (record { nests = omega (arith, nests); comparables = comparables.0; distances = distances.0 }) in
    let second = written negative (record {
      nests = omega (arith, nests);
      comparables = (and_parts (has_comparables negative) true comparables.1).0;
      distances = (and_parts (has_distances negative) true distances.1).0;
    }) in
    subst (IsSound (suc room) (query_step (Query-F.AndNot (query_node positive) (query_node negative))))
    (sym (query.rolls-AndNot positive negative))
    (and_not_sound room (query_node positive) (query_node negative) positive negative first second)
layer_written room written (Query-F.Word texts c) may =
    subst (IsSound (suc room) (query_step (Query-F.Word texts c))) (sym (query.rolls-Word texts c))
    (word_sound room texts c)
layer_written room written (Query-F.PropWord names texts c) may =
    subst (IsSound (suc room) (query_step (Query-F.PropWord names texts c))) (sym (query.rolls-PropWord names texts c))
    (prop_word_sound room names texts c)
layer_written room written (Query-F.PropValue names values c exact) may =
    subst (IsSound (suc room) (query_step (Query-F.PropValue names values c exact)))
    (sym (query.rolls-PropValue names values c exact)) (prop_value_sound room names values c exact)
layer_written room written (Query-F.Range names op values) may =
    subst (IsSound (suc room) (query_step (Query-F.Range names op values))) (sym (query.rolls-Range names op values))
    (range_sound room names op values may.comparables)
layer_written room written (Query-F.Near queries distance ordered) may =
    let nodes = map query_node queries in
    let fits = and_parts (nat_le distance greatest_distance) (list_all (λ q. q) (map has_distances queries))
    may.distances in
    let all = children_may room queries may.nests may.comparables fits.1 in
    let small = leb-true distance greatest_distance fits.0 in
    subst (IsSound (suc room) (query_step (Query-F.Near nodes distance ordered)))
    (sym (query.rolls-Near queries distance ordered))
    (near_sound room nodes queries distance (all_written room written queries all) small ordered)
layer_written room written (Query-F.Collection uris) may =
    subst (IsSound (suc room) (query_step (Query-F.Collection uris))) (sym (query.rolls-Collection uris))
    (collection_sound room uris)
layer_written room written (Query-F.Directory uris infinite) may =
    subst (IsSound (suc room) (query_step (Query-F.Directory uris infinite)))
    (sym (query.rolls-Directory uris infinite))
    (directory_sound room uris infinite)
layer_written room written (Query-F.DocUri uris) may =
    subst (IsSound (suc room) (query_step (Query-F.DocUri uris))) (sym (query.rolls-DocUri uris))
    (document_sound room uris)

abbrev Opened : Query → Type 0
Opened q = (z : Query-F Query) × (roll-Query z ≡ q)

opened : (q : Query) → Opened q
opened = ind-Query Opened (λ x y is. (x, refl))

no_room : (q : Query) → Opened q → query_depth q ≤ 0 → ⊥
no_room q (z, is) nests = omega (arith, nests, ap query_depth is, fold-roll-Query ℕ depth_step z)

written_by : (room : ℕ) → ((q : Query) → IsWritten room q) → (q : Query) → Opened q → IsWritten (suc room) q
unfolding IsWritten
written_by room written q (z, is) may =
    let layer = layer_written room written z (rolls_from room z (subst (MayBeWritten (suc room)) (sym is) may)) in
    subst (λ (r : Query). IsSound (suc room) (query_node r) r) is
    (subst (λ (n : Node). IsSound (suc room) n (roll-Query z)) (sym (fold-roll-Query Node query_step z)) layer)

written_within : (room : ℕ) (q : Query) → IsWritten room q
unfolding IsWritten
written_within zero q may = absurd (no_room q (opened q) may.nests)
written_within (suc room) q may = written_by room (written_within room) q (opened q) may

-- the canonical tree of a query has distinct names, and is the query
pub canonical_tree : (q : Query) → IsTrue (has_comparables q) → IsTrue (has_distances q) →
    IsTrue (has_distinct_names (query_node q)) × IsQuery (query_node q) q
unfolding IsWritten
canonical_tree q comparables distances =
    let sound = written_within (query_depth q) q
    (record { nests = omega arith; comparables = comparables; distances = distances }) in
    (sound.names, record { faultless = sound.clean; depth = query_depth q; says = sound.says })

pub canonical_texts_are_read : CanonicalTextsAreRead
canonical_texts_are_read q comparables distances values nests =
    let tree = canonical_tree q comparables distances in
    (query_node q, trees_are_read (query_node q) values nests tree.0, tree.1)

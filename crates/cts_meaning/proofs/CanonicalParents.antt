-- What is written of a query with children has no fault and says the query, where that of each child does.
use Rattle.std.proofs.Common.{◌≡◌, ℕ, pos, suc, ◌*◌, ◌^◌, ◌≤◌, ◌==◌, Bool, true, false, not, List, [], ◌∷◌, ◌++◌, Some, refl, ap, subst, ◌∙◌, eqb-true}
use Rattle.std.specs.Prelude.{codes}
use Rattle.std.specs.List.{list_all}
use Rattle.doc_model.specs.Tree.{has_distinct_names, is_among}
use Rattle.doc_model.specs.declared.node.Node.{Node}
use Rattle.doc_model.specs.declared.node.Node.TheVariants as node
use Rattle.doc_model.specs.declared.query.Query.{Query}
use Rattle.doc_model.specs.declared.query.Query.TheOpen.{Query-F}
use Rattle.doc_model.specs.declared.query.Query.TheVariants as query
use Rattle.json_text.specs.Grammar.{Each, Member}
use Rattle.cts_meaning.specs.Canonical.{only_if, options_member, query_object, query_step, texts_node}
use Rattle.cts_meaning.specs.Faults.{AreFaultless, IsFaultless}
use Rattle.cts_meaning.specs.Saying.{Says}
use Rattle.cts_meaning.specs.Shapes.{Field, field_shape, fields_of, greatest_distance, item_parts, children_by, rule_of, whole}
use Rattle.cts_meaning.specs.declared.form.QueryForm.TheVariants as form
use Rattle.cts_meaning.specs.declared.shape.OptionKind.TheVariants as options
use Rattle.cts_meaning.specs.declared.shape.Shape.TheVariants as shape
use Rattle.cts_meaning.proofs.CanonicalForms.{entry, options_entry}
use Rattle.cts_meaning.proofs.Entries.{Entry, IsSound, sound_of}
use Rattle.cts_meaning.proofs.Least.{faultless_of}
use Rattle.cts_meaning.proofs.Names.{names_items, names_number}
use Rattle.cts_meaning.proofs.Nodes.{out_items}
use Rattle.cts_meaning.proofs.Written.{distance_clean, order_again, order_clean, order_options}

-- nodes without a fault that say the queries, and in which names are distinct
pub record AreSound (depth : ℕ) (nodes : List Node) (queries : List Query) : Type 0 where
  pub clean : AreFaultless (item_parts shape.Query nodes)
  pub says : Each (Says depth) nodes queries
  pub names : list_all has_distinct_names nodes ≡ true

-- ---- one child, or two

child_entry : (fields : List Field) (name : List ℕ) (depth : ℕ) (n : Node) (q : Query) →
    field_shape fields name ≡ Some shape.Query → IsSound depth n q → Entry fields (name, n)
child_entry fields name depth n q found sound =
    entry fields name n shape.Query found sound.clean sound.names

pub not_sound : (depth : ℕ) (n : Node) (q : Query) → IsSound depth n q →
    IsSound (suc depth) (query_step (Query-F.Not n)) (query.Not q)
not_sound depth n q sound =
    sound_of depth form.Not ((codes "query", n) ∷ []) (query.Not q)
    (child_entry (fields_of form.Not) (codes "query") depth n q refl sound, tt) refl refl
    (q, (n, refl, sound.says), refl)

pub and_not_sound : (depth : ℕ) (n m : Node) (positive negative : Query) → IsSound depth n positive →
    IsSound depth m negative → IsSound (suc depth) (query_step (Query-F.AndNot n m)) (query.AndNot positive negative)
and_not_sound depth n m positive negative sound also =
    sound_of depth form.AndNot ((codes "positiveQuery", n) ∷ (codes "negativeQuery", m) ∷ [])
    (query.AndNot positive negative) (
      child_entry (fields_of form.AndNot) (codes "positiveQuery") depth n positive refl sound,
      (child_entry (fields_of form.AndNot) (codes "negativeQuery") depth m negative refl also, tt),
    ) refl refl (positive, negative, (n, refl, sound.says), (m, refl, also.says), refl)

-- ---- any number of children

queries_entry : (fields : List Field) (depth : ℕ) (nodes : List Node) (queries : List Query) →
    field_shape fields (codes "queries") ≡ Some shape.Queries → AreSound depth nodes queries →
    Entry fields (codes "queries", node.Items nodes)
queries_entry fields depth nodes queries found sound =
    entry fields (codes "queries") (node.Items nodes) shape.Queries found
    (faultless_of shape.Queries (node.Items nodes) (item_parts shape.Query nodes)
    (ap (children_by (rule_of shape.Queries)) (out_items nodes)) sound.clean)
    (names_items nodes ∙ sound.names)

pub and_sound : (depth : ℕ) (nodes : List Node) (queries : List Query) → AreSound depth nodes queries →
    IsSound (suc depth) (query_step (Query-F.And nodes)) (query.And queries)
and_sound depth nodes queries sound =
    sound_of depth form.And ((codes "queries", node.Items nodes) ∷ []) (query.And queries)
    (queries_entry (fields_of form.And) depth nodes queries refl sound, tt) refl refl
    (queries, (nodes, refl, sound.says), refl)

pub or_sound : (depth : ℕ) (nodes : List Node) (queries : List Query) → AreSound depth nodes queries →
    IsSound (suc depth) (query_step (Query-F.Or nodes)) (query.Or queries)
or_sound depth nodes queries sound =
    sound_of depth form.Or ((codes "queries", node.Items nodes) ∷ []) (query.Or queries)
    (queries_entry (fields_of form.Or) depth nodes queries refl sound, tt) refl refl
    (queries, (nodes, refl, sound.says), refl)

-- ---- near

distance_entry : (distance : ℕ) → distance ≤ greatest_distance →
    Entry (fields_of form.Near) (codes "distance", whole distance)
distance_entry distance small =
    entry (fields_of form.Near) (codes "distance") (whole distance) shape.Distance refl
    (distance_clean distance small) (names_number (pos (distance * 10 ^ 18)))

module _ (depth : ℕ) (nodes : List Node) (queries : List Query) (distance : ℕ) (sound : AreSound depth nodes queries)
    (small : distance ≤ greatest_distance) where
  abbrev members_by : Bool → List (List ℕ) → List Member
  members_by is_default given =
      (codes "queries", node.Items nodes) ∷ only_if (not is_default) (codes "distance") (whole distance)
      ++ options_member given

  abbrev near_query : List (List ℕ) → Query
  near_query given = query.Near queries distance (is_among given (codes "ordered"))

  first_entry : Entry (fields_of form.Near) (codes "queries", node.Items nodes)
  first_entry = queries_entry (fields_of form.Near) depth nodes queries refl sound

  given_entry : (given : List (List ℕ)) → IsFaultless (shape.Options options.Near) (texts_node given) →
      Entry (fields_of form.Near) (codes "options", texts_node given)
  given_entry given clean = options_entry (fields_of form.Near) options.Near given refl clean

  near_by : (is_default : Bool) (given : List (List ℕ)) → (distance == 10) ≡ is_default →
      IsFaultless (shape.Options options.Near) (texts_node given) →
      IsSound (suc depth) (query_object form.Near (members_by is_default given)) (near_query given)
  near_by true [] e clean =
      sound_of depth form.Near (members_by true []) (near_query []) (first_entry, tt) refl refl
      (queries, distance, [], (nodes, refl, sound.says), eqb-true distance 10 e, refl, refl)
  near_by true (first ∷ given) e clean =
      sound_of depth form.Near (members_by true (first ∷ given)) (near_query (first ∷ given))
      (first_entry, (given_entry (first ∷ given) clean, tt)) refl refl
      (queries, distance, first ∷ given, (nodes, refl, sound.says), eqb-true distance 10 e, refl, refl)
  near_by false [] e clean =
      sound_of depth form.Near (members_by false []) (near_query []) (first_entry, (distance_entry distance small, tt))
      refl refl (queries, distance, [], (nodes, refl, sound.says), refl, refl, refl)
  near_by false (first ∷ given) e clean =
      sound_of depth form.Near (members_by false (first ∷ given)) (near_query (first ∷ given))
      (first_entry, (distance_entry distance small, (given_entry (first ∷ given) clean, tt))) refl refl
      (queries, distance, first ∷ given, (nodes, refl, sound.says), refl, refl, refl)

  pub near_sound : (ordered : Bool) →
      IsSound (suc depth) (query_step (Query-F.Near nodes distance ordered)) (query.Near queries distance ordered)
  near_sound ordered =
      subst (λ (x : Bool). IsSound (suc depth) (query_step (Query-F.Near nodes distance ordered))
      (query.Near queries distance x)) (order_again ordered)
      (near_by (distance == 10) (order_options ordered) refl (order_clean ordered))

-- ---- none

pub true_sound : (depth : ℕ) → IsSound (suc depth) (query_step Query-F.True) query.True
true_sound depth = sound_of depth form.True [] query.True tt refl refl refl

pub false_sound : (depth : ℕ) → IsSound (suc depth) (query_step Query-F.False) query.False
false_sound depth = sound_of depth form.False [] query.False tt refl refl refl

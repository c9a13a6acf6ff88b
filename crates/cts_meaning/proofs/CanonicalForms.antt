-- What is written of a query has no fault and says the query, where that of each query in it does.
use Rattle.std.proofs.Common.{◌≡◌, ℕ, suc, Bool, true, false, List, [], ◌∷◌, Some, inr, refl, subst}
use Rattle.std.specs.Prelude.{codes}
use Rattle.std.specs.List.{list_all}
use Rattle.doc_model.specs.Tree.{has_distinct_names, is_among}
use Rattle.doc_model.specs.declared.node.Node.{Node}
use Rattle.doc_model.specs.declared.node.Node.TheVariants as node
use Rattle.doc_model.specs.declared.query.Case.{Case}
use Rattle.doc_model.specs.declared.query.Compare.{Compare}
use Rattle.doc_model.specs.declared.query.Query.{Query}
use Rattle.doc_model.specs.declared.query.Query.TheOpen.{Query-F}
use Rattle.doc_model.specs.declared.query.Query.TheVariants as query
use Rattle.doc_model.specs.declared.scalar.Scalar.{Scalar}
use Rattle.json_text.specs.Grammar.{Member}
use Rattle.cts_meaning.specs.Canonical.{case_options, options_member, query_object, query_step, scalars_node, texts_node}
use Rattle.cts_meaning.specs.Faults.{IsFaultless}
use Rattle.cts_meaning.specs.Saying.{case_of, depth_text}
use Rattle.cts_meaning.specs.Shapes.{Field, compare_text, field_shape, fields_of}
use Rattle.cts_meaning.specs.declared.form.QueryForm.TheVariants as form
use Rattle.cts_meaning.specs.declared.shape.OptionKind.{OptionKind}
use Rattle.cts_meaning.specs.declared.shape.OptionKind.TheVariants as options
use Rattle.cts_meaning.specs.declared.shape.Shape.{Shape}
use Rattle.cts_meaning.specs.declared.shape.Shape.TheVariants as shape
use Rattle.cts_meaning.proofs.Entries.{Entry, IsSound, sound_of}
use Rattle.cts_meaning.proofs.Names.{names_scalars, names_text, names_texts}
use Rattle.cts_meaning.proofs.Written.{case_again, case_clean, compare_clean, comparables_clean, infinity_clean, is_ordered, scalars_clean, texts_clean, value_case, value_clean, value_exact, value_options}

pub entry : (fields : List Field) (name : List ℕ) (n : Node) (wanted : Shape) → field_shape fields name ≡ Some wanted →
    IsFaultless wanted n → has_distinct_names n ≡ true → Entry fields (name, n)
entry fields name n wanted found clean names = record { wanted = wanted; found = found; clean = clean; names = names }

texts_entry : (fields : List Field) (name : List ℕ) (texts : List (List ℕ)) →
    field_shape fields name ≡ Some shape.Texts → Entry fields (name, texts_node texts)
texts_entry fields name texts found =
    entry fields name (texts_node texts) shape.Texts found (texts_clean texts) (names_texts texts)

pub options_entry : (fields : List Field) (kind : OptionKind) (given : List (List ℕ)) →
    field_shape fields (codes "options") ≡ Some (shape.Options kind) →
    IsFaultless (shape.Options kind) (texts_node given) → Entry fields (codes "options", texts_node given)
options_entry fields kind given found clean =
    entry fields (codes "options") (texts_node given) (shape.Options kind) found clean
    (names_texts given)

-- ---- queries of texts

pub collection_sound : (depth : ℕ) (uris : List (List ℕ)) →
    IsSound (suc depth) (query_step (Query-F.Collection uris)) (query.Collection uris)
collection_sound depth uris =
    sound_of depth form.Collection ((codes "uris", texts_node uris) ∷ []) (query.Collection uris)
    (texts_entry (fields_of form.Collection) (codes "uris") uris refl, tt) refl refl (uris, inr refl, refl)

pub document_sound : (depth : ℕ) (uris : List (List ℕ)) →
    IsSound (suc depth) (query_step (Query-F.DocUri uris)) (query.DocUri uris)
document_sound depth uris =
    sound_of depth form.DocUri ((codes "uris", texts_node uris) ∷ []) (query.DocUri uris)
    (texts_entry (fields_of form.DocUri) (codes "uris") uris refl, tt) refl refl (uris, inr refl, refl)

pub directory_sound : (depth : ℕ) (uris : List (List ℕ)) (infinite : Bool) →
    IsSound (suc depth) (query_step (Query-F.Directory uris infinite)) (query.Directory uris infinite)
directory_sound depth uris false =
    sound_of depth form.Directory ((codes "uris", texts_node uris) ∷ []) (query.Directory uris false)
    (texts_entry (fields_of form.Directory) (codes "uris") uris refl, tt) refl refl (uris, false, inr refl, refl, refl)
directory_sound depth uris true =
    sound_of depth form.Directory ((codes "uris", texts_node uris) ∷ (codes "depth", node.Text (depth_text true)) ∷ [])
    (query.Directory uris true) (
      texts_entry (fields_of form.Directory) (codes "uris") uris refl,
      (
        entry (fields_of form.Directory) (codes "depth") (node.Text (depth_text true))
            shape.Depth refl infinity_clean (names_text (depth_text true)),
        tt,
      ),
    ) refl refl (uris, true, inr refl, refl, refl)

word_by : (depth : ℕ) (texts given : List (List ℕ)) → IsFaultless (shape.Options options.Word) (texts_node given) →
    IsSound (suc depth) (query_object form.Word ((codes "text", texts_node texts) ∷ options_member given))
    (query.Word texts (case_of given))
word_by depth texts [] clean =
    sound_of depth form.Word ((codes "text", texts_node texts) ∷ []) (query.Word texts (case_of []))
    (texts_entry (fields_of form.Word) (codes "text") texts refl, tt) refl refl (texts, [], inr refl, refl, refl)
word_by depth texts (first ∷ given) clean =
    sound_of depth form.Word ((codes "text", texts_node texts) ∷ (codes "options", texts_node (first ∷ given)) ∷ [])
    (query.Word texts (case_of (first ∷ given))) (
      texts_entry (fields_of form.Word) (codes "text") texts refl,
      (options_entry (fields_of form.Word) options.Word (first ∷ given) refl clean, tt),
    ) refl refl (texts, first ∷ given, inr refl, refl, refl)

pub word_sound : (depth : ℕ) (texts : List (List ℕ)) (c : Case) →
    IsSound (suc depth) (query_step (Query-F.Word texts c)) (query.Word texts c)
word_sound depth texts c =
    subst (λ (x : Case). IsSound (suc depth) (query_step (Query-F.Word texts c)) (query.Word texts x)) (case_again c)
    (word_by depth texts (case_options c) (case_clean c))

abbrev named_texts : List (List ℕ) → List (List ℕ) → List Member → List Member
named_texts names texts others = (codes "property", texts_node names) ∷ (codes "text", texts_node texts) ∷ others

prop_word_by : (depth : ℕ) (names texts given : List (List ℕ)) →
    IsFaultless (shape.Options options.Word) (texts_node given) →
    IsSound (suc depth) (query_object form.PropWord (named_texts names texts (options_member given)))
    (query.PropWord names texts (case_of given))
prop_word_by depth names texts [] clean =
    sound_of depth form.PropWord (named_texts names texts []) (query.PropWord names texts (case_of [])) (
      texts_entry (fields_of form.PropWord) (codes "property") names refl,
      (texts_entry (fields_of form.PropWord) (codes "text") texts refl, tt),
    ) refl refl (names, texts, [], inr refl, inr refl, refl, refl)
prop_word_by depth names texts (first ∷ given) clean =
    sound_of depth form.PropWord (named_texts names texts ((codes "options", texts_node (first ∷ given)) ∷ []))
    (query.PropWord names texts (case_of (first ∷ given))) (
      texts_entry (fields_of form.PropWord) (codes "property") names refl,
      (
        texts_entry (fields_of form.PropWord) (codes "text") texts refl,
        (options_entry (fields_of form.PropWord) options.Word (first ∷ given) refl clean, tt),
      ),
    ) refl refl (names, texts, first ∷ given, inr refl, inr refl, refl, refl)

pub prop_word_sound : (depth : ℕ) (names texts : List (List ℕ)) (c : Case) →
    IsSound (suc depth) (query_step (Query-F.PropWord names texts c)) (query.PropWord names texts c)
prop_word_sound depth names texts c =
    subst (λ (x : Case). IsSound (suc depth) (query_step (Query-F.PropWord names texts c))
    (query.PropWord names texts x))
    (case_again c) (prop_word_by depth names texts (case_options c) (case_clean c))

-- ---- queries of values

abbrev named_values : List (List ℕ) → List Scalar → List Member → List Member
named_values names values others =
    (codes "property", texts_node names) ∷ (codes "value", scalars_node values) ∷ others

values_entry : (values : List Scalar) → Entry (fields_of form.PropValue) (codes "value", scalars_node values)
values_entry values =
    entry (fields_of form.PropValue) (codes "value") (scalars_node values) shape.Scalars refl
    (scalars_clean values) (names_scalars values)

abbrev value_query : List (List ℕ) → List Scalar → List (List ℕ) → Query
value_query names values given = query.PropValue names values (case_of given) (is_among given (codes "exact"))

prop_value_by : (depth : ℕ) (names : List (List ℕ)) (values : List Scalar) (given : List (List ℕ)) →
    IsFaultless (shape.Options options.Value) (texts_node given) →
    IsSound (suc depth) (query_object form.PropValue (named_values names values (options_member given)))
    (value_query names values given)
prop_value_by depth names values [] clean =
    sound_of depth form.PropValue (named_values names values []) (value_query names values [])
    (texts_entry (fields_of form.PropValue) (codes "property") names refl, (values_entry values, tt)) refl refl
    (names, values, [], inr refl, inr refl, refl, refl)
prop_value_by depth names values (first ∷ given) clean =
    sound_of depth form.PropValue (named_values names values ((codes "options", texts_node (first ∷ given)) ∷ []))
    (value_query names values (first ∷ given)) (
      texts_entry (fields_of form.PropValue) (codes "property") names refl,
      (
        values_entry values,
        (options_entry (fields_of form.PropValue) options.Value (first ∷ given) refl clean, tt),
      ),
    ) refl refl (names, values, first ∷ given, inr refl, inr refl, refl, refl)

pub prop_value_sound : (depth : ℕ) (names : List (List ℕ)) (values : List Scalar) (c : Case) (exact : Bool) →
    IsSound (suc depth) (query_step (Query-F.PropValue names values c exact)) (query.PropValue names values c exact)
prop_value_sound depth names values c exact =
    let n = query_step (Query-F.PropValue names values c exact) in
    let given = value_options c exact in
    subst (λ (x : Bool). IsSound (suc depth) n (query.PropValue names values c x)) (value_exact c exact)
    (subst (λ (x : Case). IsSound (suc depth) n (query.PropValue names values x (is_among given (codes "exact"))))
    (value_case c exact) (prop_value_by depth names values given (value_clean c exact)))

pub range_sound : (depth : ℕ) (names : List (List ℕ)) (op : Compare) (values : List Scalar) →
    list_all is_ordered values ≡ true →
    IsSound (suc depth) (query_step (Query-F.Range names op values)) (query.Range names op values)
range_sound depth names op values ordered =
    sound_of depth form.Range ((codes "property", texts_node names) ∷ (codes "operator", node.Text (compare_text op))
    ∷ (codes "value", scalars_node values) ∷ []) (query.Range names op values) (
      texts_entry (fields_of form.Range) (codes "property") names refl,
      (
        entry (fields_of form.Range) (codes "operator") (node.Text (compare_text op))
            shape.Compare refl (compare_clean op) (names_text (compare_text op)),
        (
          entry (fields_of form.Range) (codes "value") (scalars_node values)
              shape.Comparables refl (comparables_clean values ordered) (names_scalars values),
          tt,
        ),
      ),
    ) refl refl (names, op, values, inr refl, refl, inr refl, refl)

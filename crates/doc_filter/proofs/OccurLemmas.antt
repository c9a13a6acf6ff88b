-- Which condition means a query of which form.
use Rattle.std.proofs.Common.{◌≡◌, ℕ, ◌+◌, ◌<◌, ◌++◌, Bool, not, ◌&&◌, List, [], ◌∷◌, map, flat_map, length, get_or, take}
use Rattle.std.proofs.Common.{Option, None, Some, refl, sym, ap, ◌∙◌}
use Rattle.std.proofs.lemmas.List.{map_more, map_push}
use Rattle.std.proofs.lemmas.List.Folds.{flat_map-map}
use Rattle.std.specs.List.{list_any, list_all}
use Rattle.doc_model.specs.Documents.{PlainDocument}
use Rattle.doc_model.specs.declared.node.Node.{Node}
use Rattle.doc_model.specs.declared.query.Case.{Case}
use Rattle.doc_model.specs.declared.query.Compare.{Compare}
use Rattle.doc_model.specs.declared.query.Query.{Query, map-Query}
use Rattle.doc_model.specs.declared.query.Query.TheFolds.{fold-roll-Query}
use Rattle.doc_model.specs.declared.query.Query.TheOpen.{Query-F}
use Rattle.doc_model.specs.declared.query.Query.TheVariants as query
use Rattle.doc_model.specs.declared.query.Query.TheViews.{roll-Query}
use Rattle.doc_model.specs.declared.scalar.Scalar.{Scalar}
use Rattle.doc_model.specs.declared.scalar.Scalar.TheVariants as scalar
use Rattle.doc_meaning.specs.declared.meaning.Meaning.{Meaning}
use Rattle.doc_meaning.specs.Meaning.{from_starts, meaning, meaning_step, plainly, word_starts}
use Rattle.doc_meaning.specs.Near.{is_near}
use Rattle.doc_meaning.specs.Strings.{scalars_of, starts_among, strings}
use Rattle.doc_meaning.specs.Values.{in_range, scalar_equals}
use Rattle.doc_meaning.proofs.AnyLemmas.{any_same}
use Rattle.doc_filter.specs.declared.condition.Condition.{Condition, map-Condition}
use Rattle.doc_filter.specs.declared.condition.Condition.TheFolds.{fold-roll-Condition}
use Rattle.doc_filter.specs.declared.condition.Condition.TheOpen.{Condition-F}
use Rattle.doc_filter.specs.declared.condition.Condition.TheVariants as condition
use Rattle.doc_filter.specs.declared.condition.Condition.TheViews.{roll-Condition}
use Rattle.doc_filter.specs.declared.phrase.Phrase.{Phrase}
use Rattle.doc_filter.specs.declared.scalar_test.ScalarTest.TheVariants.{Equal, Range}
use Rattle.doc_filter.specs.declared.values.Values.{Values}
use Rattle.doc_filter.specs.Conditions.{MeanQueries, MeansQuery, condition_meaning, condition_step, starts_of, starts_of_some}
use Rattle.doc_filter.specs.Phrases.{phrase_of}
use Rattle.doc_filter.specs.Scalars.{AreValues, passes}
use Rattle.doc_filter.proofs.PhraseLemmas.{phrase_starts_are}
use Rattle.doc_filter.proofs.ScalarLemmas.{any_named}

-- a step of a loop that prepares one query after another
pub occur_more : (made grown : List Condition) (queries items : List Query) (i : ℕ) (q : Query) (c : Condition) →
    items ≡ queries → i < length items → q ≡ get_or items i q → grown ≡ made ++ c ∷ [] → MeansQuery c q →
    MeanQueries made (take i queries) → MeanQueries grown (take (i + 1) queries)
occur_more made grown queries items i q c same lt is pushed occurs held d =
    ap (map (condition_meaning d)) pushed
    ∙ map_push (condition_meaning d) made c
    ∙ ap (λ ms. ms ++ condition_meaning d c ∷ []) (held d)
    ∙ ap (λ m. map (meaning d) (take i queries) ++ m ∷ []) (occurs d ∙ ap (meaning d) is)
    ∙ ap (λ qs. map (meaning d) (take i qs) ++ meaning d (get_or items i q) ∷ []) (sym same)
    ∙ sym (map_more (meaning d) items i q lt)
    ∙ ap (λ qs. map (meaning d) (take (i + 1) qs)) same

flat_map_same : {A B : Type 0} (f g : A → List B) → ((x : A) → f x ≡ g x) → (xs : List A) → flat_map f xs ≡ flat_map g xs
flat_map_same f g same [] = refl
flat_map_same f g same (x ∷ xs) =
    ap (λ ys. ys ++ flat_map f xs) (same x) ∙ ap (λ ys. g x ++ ys) (flat_map_same f g same xs)

phrases_start : (root : Node) (names : Option (List (List ℕ))) (texts : List (List ℕ)) (case : Case) →
    starts_of_some root names (map (phrase_of case) texts) ≡ word_starts (strings root) texts case names
phrases_start root names texts case =
    flat_map-map (starts_of root names) (phrase_of case) texts
    ∙ flat_map_same (λ text. starts_of root names (phrase_of case text))
    (λ text. starts_among (strings root) text case names)
    (λ text. phrase_starts_are (strings root) text case names) texts

range_same : (op : Compare) (values : List Scalar) (v : Scalar) →
    passes (Range op values) v ≡ list_any (in_range op v) values
range_same op values scalar.Null = refl
range_same op values (scalar.Bool b) = refl
range_same op values (scalar.Num n) = refl
range_same op values (scalar.Text t) = refl

module _ (q : Query) where
  by_form : (c : Condition) (d : PlainDocument) (y : Condition-F Condition) (z : Query-F Query) →
      roll-Condition y ≡ c → q ≡ roll-Query z →
      condition_step d (map-Condition Condition Meaning (condition_meaning d) y)
      ≡ meaning_step d (map-Query Query Meaning (meaning d) z) →
      condition_meaning d c ≡ meaning d q
  by_form c d y z made is step =
      ap (condition_meaning d) (sym made)
      ∙ fold-roll-Condition Meaning (condition_step d) y
      ∙ step
      ∙ sym (ap (meaning d) is ∙ fold-roll-Query Meaning (meaning_step d) z)

  pub occurs_and : (queries : List Query) (cs : List Condition) → q ≡ query.And queries → MeanQueries cs queries →
      MeansQuery (condition.And cs) q
  occurs_and queries cs is held d =
      by_form (condition.And cs) d (Condition-F.And cs) (Query-F.And queries) (condition.rolls-And cs)
      (is ∙ sym (query.rolls-And queries)) (ap (λ ms. plainly (list_all (λ m. m.holds) ms)) (held d))

  pub occurs_or : (queries : List Query) (cs : List Condition) → q ≡ query.Or queries → MeanQueries cs queries →
      MeansQuery (condition.Or cs) q
  occurs_or queries cs is held d =
      let any : List Meaning → Meaning =
      λ ms. record { holds = list_any (λ m. m.holds) ms; starts = flat_map (λ m. m.starts) ms } in
      by_form (condition.Or cs) d (Condition-F.Or cs) (Query-F.Or queries) (condition.rolls-Or cs)
      (is ∙ sym (query.rolls-Or queries)) (ap any (held d))

  pub occurs_not : (child : Query) (c : Condition) → q ≡ query.Not child → MeansQuery c child →
      MeansQuery (condition.Not c) q
  occurs_not child c is held d =
      by_form (condition.Not c) d (Condition-F.Not c) (Query-F.Not child) (condition.rolls-Not c)
      (is ∙ sym (query.rolls-Not child)) (ap (λ m. plainly (not m.holds)) (held d))

  pub occurs_and_not : (positive negative : Query) (p n : Condition) → q ≡ query.AndNot positive negative →
      MeansQuery p positive → MeansQuery n negative → MeansQuery (condition.AndNot p n) q
  occurs_and_not positive negative p n is held_p held_n d =
      by_form (condition.AndNot p n) d (Condition-F.AndNot p n) (Query-F.AndNot positive negative)
      (condition.rolls-AndNot p n) (is ∙ sym (query.rolls-AndNot positive negative))
      (ap (λ m. plainly (m.holds && not (condition_meaning d n).holds)) (held_p d)
      ∙ ap (λ m. plainly ((meaning d positive).holds && not m.holds)) (held_n d))

  pub occurs_near : (queries : List Query) (cs : List Condition) (distance : ℕ) (ordered : Bool) →
      q ≡ query.Near queries distance ordered → MeanQueries cs queries →
      MeansQuery (condition.Near cs distance ordered) q
  occurs_near queries cs distance ordered is held d =
      by_form (condition.Near cs distance ordered) d (Condition-F.Near cs distance ordered)
      (Query-F.Near queries distance ordered) (condition.rolls-Near cs distance ordered)
      (is ∙ sym (query.rolls-Near queries distance ordered))
      (ap (λ ms. plainly (is_near distance ordered (map (λ m. m.starts) ms))) (held d))

  pub occurs_word : (texts : List (List ℕ)) (case : Case) (phrases : List Phrase) → q ≡ query.Word texts case →
      phrases ≡ map (phrase_of case) texts → MeansQuery (condition.Word phrases) q
  occurs_word texts case phrases is cut d =
      by_form (condition.Word phrases) d (Condition-F.Word phrases) (Query-F.Word texts case)
      (condition.rolls-Word phrases) (is ∙ sym (query.rolls-Word texts case))
      (ap (λ ps. from_starts (starts_of_some d.root None ps)) cut
      ∙ ap from_starts (phrases_start d.root None texts case))

  pub occurs_prop_word : (names texts : List (List ℕ)) (case : Case) (phrases : List Phrase) →
      q ≡ query.PropWord names texts case → phrases ≡ map (phrase_of case) texts →
      MeansQuery (condition.PropWord names phrases) q
  occurs_prop_word names texts case phrases is cut d =
      by_form (condition.PropWord names phrases) d (Condition-F.PropWord names phrases)
      (Query-F.PropWord names texts case) (condition.rolls-PropWord names phrases)
      (is ∙ sym (query.rolls-PropWord names texts case))
      (ap (λ ps. from_starts (starts_of_some d.root (Some names) ps)) cut
      ∙ ap from_starts (phrases_start d.root (Some names) texts case))

  pub occurs_value : (names : List (List ℕ)) (values : List Scalar) (case : Case) (exact : Bool) (made : Values) →
      q ≡ query.PropValue names values case exact → AreValues made case exact values →
      MeansQuery (condition.Scalars names (Equal made)) q
  occurs_value names values case exact made is held d =
      by_form (condition.Scalars names (Equal made)) d (Condition-F.Scalars names (Equal made))
      (Query-F.PropValue names values case exact) (condition.rolls-Scalars names (Equal made))
      (is ∙ sym (query.rolls-PropValue names values case exact))
      (ap plainly (sym (any_named (passes (Equal made)) names d.root)
      ∙ any_same (passes (Equal made)) (λ v. list_any (scalar_equals case exact v) values) held
      (scalars_of names d.root)))

  pub occurs_range : (names : List (List ℕ)) (op : Compare) (values : List Scalar) →
      q ≡ query.Range names op values → MeansQuery (condition.Scalars names (Range op values)) q
  occurs_range names op values is d =
      by_form (condition.Scalars names (Range op values)) d (Condition-F.Scalars names (Range op values))
      (Query-F.Range names op values) (condition.rolls-Scalars names (Range op values))
      (is ∙ sym (query.rolls-Range names op values))
      (ap plainly (sym (any_named (passes (Range op values)) names d.root)
      ∙ any_same (passes (Range op values)) (λ v. list_any (in_range op v) values) (range_same op values)
      (scalars_of names d.root)))

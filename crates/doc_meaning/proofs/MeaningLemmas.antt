-- What a query with children means, by what its children mean.
use Rattle.std.proofs.Common.{◌≡◌, List, true, refl, sym, ap, ◌∙◌}
use Rattle.std.proofs.lemmas.Bool.Decides.{Decides-by_and}
use Rattle.std.proofs.lemmas.List.Folds.{list_all-map}
use Rattle.std.specs.List.{list_all}
use Rattle.doc_model.specs.Documents.{PlainDocument}
use Rattle.doc_model.specs.declared.query.Query.{Query}
use Rattle.doc_model.specs.declared.query.Query.TheFolds.{fold-roll-Query}
use Rattle.doc_model.specs.declared.query.Query.TheOpen.{Query-F}
use Rattle.doc_model.specs.declared.query.Query.TheVariants as query
use Rattle.doc_meaning.specs.declared.meaning.Meaning.{Meaning}
use Rattle.doc_meaning.specs.Laws.{AndSatisfiesEach}
use Rattle.doc_meaning.specs.Meaning.{meaning, meaning_step, satisfies}

sat_and : (queries : List Query) (d : PlainDocument) → satisfies (query.And queries) d ≡ list_all (λ q. satisfies q d) queries
sat_and queries d =
    ap (λ q. satisfies q d) (sym (query.rolls-And queries)) ∙
    ap (λ m. m.holds) (fold-roll-Query Meaning (meaning_step d) (Query-F.And queries))
    ∙ list_all-map (λ m. m.holds) (meaning d) queries

pub and_satisfies_each : AndSatisfiesEach
and_satisfies_each queries d =
    let decides = Decides-by_and (λ q. satisfies q d) (λ q. satisfies q d ≡ true) (list_all (λ q. satisfies q d))
    (λ q. (λ e. e, λ e. e)) refl (λ _ _. refl) queries in
    (λ holds. decides.0 (sym (sat_and queries d) ∙ holds), λ each. sat_and queries d ∙ decides.1 each)

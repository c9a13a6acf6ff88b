-- What a filter is asked.
use Rattle.std.specs.Prelude.{◌≡◌, Bool}
use Rattle.doc_model.specs.Documents.{PlainDocument}
use Rattle.doc_model.specs.declared.query.Query.{Query}
use Rattle.doc_meaning.specs.Meaning.{satisfies}
use Rattle.doc_filter.specs.declared.filter.Filter.{Filter}
use Rattle.doc_filter.specs.Conditions.{is_met}

-- the filter lets the document through
abbrev pub lets_through : Filter → PlainDocument → Bool
lets_through filter d = is_met filter.condition d

-- it lets through exactly the documents that satisfy the query
abbrev pub FiltersBy : Filter → Query → Type 0
FiltersBy filter query = (d : PlainDocument) → lets_through filter d ≡ satisfies query d

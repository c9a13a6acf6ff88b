-- The two tests of a property word query.
use Rattle.std.specs.Prelude.{ℕ, List, map}
use Rattle.doc_model.specs.declared.query.Case.{Case}
use Rattle.doc_meaning.specs.declared.bounds.Bounds.{Bounds}
use Rattle.doc_meaning.specs.declared.string_node.StringNode.{StringNode}
use Rattle.doc_meaning.specs.Estimates.{any_bound, prop_text_bounds}

-- for some of the texts in one property
abbrev pub name_bounds : List StringNode → Case → List (List ℕ) → List ℕ → Bounds
name_bounds found case texts name = any_bound (map (λ text. prop_text_bounds found case text name) texts)

-- for some of the texts in some of the properties
abbrev pub names_bounds : List StringNode → Case → List (List ℕ) → List (List ℕ) → Bounds
names_bounds found case texts names = any_bound (map (name_bounds found case texts) names)

-- The kinds of the values of a list, each once.
use Rattle.std.specs.Prelude.{◌≡◌, Bool, List, [], ◌∷◌}
use Rattle.std.specs.List.{find}
use Rattle.doc_model.specs.declared.checks.kinds.Kinds.{Kinds}
use Rattle.doc_model.specs.declared.checks.kinds.Kinds.TheVariants as kinds
use Rattle.doc_model.specs.declared.indexes.Kind.{Kind}
use Rattle.doc_model.specs.declared.indexes.Kind.TheVariants as kind

-- the kind that isn't this one
abbrev pub other_kind : Kind → Kind
other_kind kind.Decimal = kind.Text
other_kind kind.Text = kind.Decimal

-- the kinds, in the order in which they first occur
abbrev pub listed : Kinds → List Kind
listed kinds.Neither = []
listed (kinds.One first) = first ∷ []
listed (kinds.Both first) = first ∷ other_kind first ∷ []

-- whichever test the kinds are put to, the first that passes it is the same
abbrev pub FindAlike : List Kind → List Kind → Type 0
FindAlike ks all = (test : Kind → Bool) → find test ks ≡ find test all

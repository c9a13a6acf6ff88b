-- Scalars of the named properties, down a tree.
use Rattle.std.proofs.Common.{◌≡◌, ℕ, ◌&&◌, Bool, List, filter, Some, ap, ◌∙◌}
use Rattle.std.specs.List.{list_any}
use Rattle.doc_model.specs.declared.node.Node.{Node}
use Rattle.doc_model.specs.declared.node.Node.TheVariants as node
use Rattle.doc_model.specs.declared.scalar.Scalar.{Scalar}
use Rattle.doc_meaning.specs.Strings.{Property, is_named, scalars, scalars_of, scalars_under}
use Rattle.doc_meaning.proofs.AnyLemmas.{any-filter, any-flat_map, any-map}
use Rattle.doc_meaning.proofs.ScalarLemmas.{scalars_items, scalars_members}
use Rattle.doc_filter.specs.Scalars.{some_named}

-- of the named properties, before the others are left out
pub any_named : (test : Scalar → Bool) (names : List (List ℕ)) (root : Node) →
    list_any test (scalars_of names root) ≡ some_named names test (scalars root)
any_named test names root =
    any-map test (λ s. s.1) (filter (λ s. is_named (Some names) s.0) (scalars root))
    ∙ any-filter (λ s. test s.1) (λ s. is_named (Some names) s.0) (scalars root)

module _ (names : List (List ℕ)) (test : Scalar → Bool) where
  pub named_items : (n : Node) (items : List Node) (property : Property) → n ≡ node.Items items →
      some_named names test (scalars_under n property)
      ≡ list_any (λ item. some_named names test (scalars_under item property)) items
  named_items n items property is =
      ap (some_named names test) (scalars_items n items property is)
      ∙ any-flat_map (λ s. is_named (Some names) s.0 && test s.1) (λ item. scalars_under item property) items

  pub named_members : (n : Node) (members : List (List ℕ × Node)) (property : Property) → n ≡ node.Members members →
      some_named names test (scalars_under n property)
      ≡ list_any (λ member. some_named names test (scalars_under member.1 (Some member.0))) members
  named_members n members property is =
      ap (some_named names test) (scalars_members n members property is)
      ∙ any-flat_map (λ s. is_named (Some names) s.0 && test s.1)
      (λ member. scalars_under member.1 (Some member.0)) members

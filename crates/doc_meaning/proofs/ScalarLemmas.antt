-- The scalars of a node from those of its children.
use Rattle.std.proofs.Common.{◌≡◌, ℕ, List, flat_map, Some, sym, ap, ◌∙◌}
use Rattle.std.proofs.lemmas.List.Folds.{flat_map-map}
use Rattle.doc_model.specs.declared.node.Node.{Node}
use Rattle.doc_model.specs.declared.node.Node.TheVariants as node
use Rattle.doc_model.specs.declared.node.Node.TheOpen.{Node-F}
use Rattle.doc_model.specs.declared.node.Node.TheFolds.{fold-roll-Node}
use Rattle.doc_model.specs.declared.scalar.Scalar.{Scalar}
use Rattle.doc_meaning.specs.Strings.{Property, scalars_step, scalars_under}

pub scalars_items : (n : Node) (items : List Node) (property : Property) → n ≡ node.Items items →
    scalars_under n property ≡ flat_map (λ item. scalars_under item property) items
scalars_items n items property is =
    ap (λ m. scalars_under m property) (is ∙ sym (node.rolls-Items items))
    ∙ ap (λ f. f property) (fold-roll-Node (Property → List (Property × Scalar)) scalars_step (Node-F.Items items))
    ∙ flat_map-map (λ f. f property) scalars_under items

pub scalars_members : (n : Node) (members : List (List ℕ × Node)) (property : Property) → n ≡ node.Members members →
    scalars_under n property ≡ flat_map (λ member. scalars_under member.1 (Some member.0)) members
scalars_members n members property is =
    ap (λ m. scalars_under m property) (is ∙ sym (node.rolls-Members members))
    ∙ ap (λ f. f property) (fold-roll-Node (Property → List (Property × Scalar)) scalars_step (Node-F.Members members))
    ∙ flat_map-map (λ member. member.1 (Some member.0)) _ members

-- Scalars as nodes, and back.
use Rattle.std.proofs.Common.{◌≡◌, ◌<◌, [], ap, ◌∙◌, sym, arith}
use Rattle.doc_model.specs.declared.node.Node.{Node}
use Rattle.doc_model.specs.declared.node.Node.TheOpen.{Node-F}
use Rattle.doc_model.specs.declared.node.Node.TheViews.{out-Node}
use Rattle.doc_model.specs.declared.scalar.Scalar.{Scalar}
use Rattle.doc_model.specs.declared.scalar.Scalar.TheVariants as scalar
use Rattle.cts_meaning.specs.Faults.{node_count}
use Rattle.cts_meaning.specs.Shapes.{scalar_node}
use Rattle.cts_meaning.proofs.Counts.{count_bool, count_null, count_number, count_text}
use Rattle.cts_meaning.proofs.Nodes.{items_in, items_in_bool, items_in_null, items_in_number, items_in_text, out_bool, out_null, out_number, out_text}
use Rattle.cts_meaning.proofs.Nodes.{sort_bool, sort_null, sort_number, sort_of, sort_text}

pub scalar_sort : (s : Scalar) → sort_of (scalar_node s) < 4
scalar_sort scalar.Null = omega (arith, sort_null)
scalar_sort (scalar.Bool b) = omega (arith, sort_bool b)
scalar_sort (scalar.Num k) = omega (arith, sort_number k)
scalar_sort (scalar.Text text) = omega (arith, sort_text text)

pub scalar_items : (s : Scalar) → items_in (scalar_node s) ≡ []
scalar_items scalar.Null = items_in_null
scalar_items (scalar.Bool b) = items_in_bool b
scalar_items (scalar.Num k) = items_in_number k
scalar_items (scalar.Text text) = items_in_text text

pub scalar_count : (s : Scalar) → node_count (scalar_node s) ≡ 1
scalar_count scalar.Null = count_null
scalar_count (scalar.Bool b) = count_bool b
scalar_count (scalar.Num k) = count_number k
scalar_count (scalar.Text text) = count_text text

abbrev layer_scalar : Node-F Node → Scalar
layer_scalar (Node-F.Bool b) = scalar.Bool b
layer_scalar (Node-F.Num k) = scalar.Num k
layer_scalar (Node-F.Text text) = scalar.Text text
layer_scalar _ = scalar.Null

-- the scalar that a node is, null for an array or an object
pub scalar_in : Node → Scalar
scalar_in n = layer_scalar (out-Node n)

pub scalar_in_scalar : (s : Scalar) → scalar_in (scalar_node s) ≡ s
unfolding scalar_in
scalar_in_scalar scalar.Null = ap layer_scalar out_null
scalar_in_scalar (scalar.Bool b) = ap layer_scalar (out_bool b)
scalar_in_scalar (scalar.Num k) = ap layer_scalar (out_number k)
scalar_in_scalar (scalar.Text text) = ap layer_scalar (out_text text)

pub same_scalar : (s t : Scalar) → scalar_node s ≡ scalar_node t → s ≡ t
same_scalar s t e = sym (scalar_in_scalar s) ∙ ap scalar_in e ∙ scalar_in_scalar t

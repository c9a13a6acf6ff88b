-- How the values of queries compare with those of documents.
use Rattle.std.specs.Prelude.{ℕ, Bool, true, false, not, List, Option, Some, None, if◌then◌else◌}
use Rattle.std.specs.Cmp.Lexicographic.{slice_cmp, pointwise}
use Rattle.std.specs.Option.{option_map_or}
use Rattle.std.specs.Ordering.{nat_cmp, int_cmp, int_eq, is_lt, is_gt, is_eq}
use Rattle.std.specs.Str.{bytes_eq}
use Rattle.std.specs.declared.cmp.Ordering.{Ordering}
use Rattle.doc_model.specs.declared.query.Case.{Case}
use Rattle.doc_model.specs.declared.query.Compare.{Compare}
use Rattle.doc_model.specs.declared.query.Compare.TheVariants.{Lt, Le, Gt, Ge, Eq, Ne}
use Rattle.doc_model.specs.declared.scalar.Scalar.{Scalar}
use Rattle.doc_model.specs.declared.scalar.Scalar.TheVariants as scalar
use Rattle.doc_meaning.specs.Strings.{ignores_case, words_seen}

-- both true or both false
abbrev pub bool_eq : Bool → Bool → Bool
bool_eq true b = b
bool_eq false b = not b

-- a text of a document (left) equals one of a query: as strings where `exact`, else word by word
abbrev pub text_equals : Case → Bool → List ℕ → List ℕ → Bool
text_equals case exact found wanted =
    let any_case = ignores_case case wanted in
    if exact then bytes_eq found wanted else pointwise bytes_eq (words_seen any_case found) (words_seen any_case wanted)

-- a scalar of a document (left) equals one of a query: by type and value
abbrev pub scalar_equals : Case → Bool → Scalar → Scalar → Bool
scalar_equals case exact scalar.Null scalar.Null = true
scalar_equals case exact (scalar.Bool a) (scalar.Bool b) = bool_eq a b
scalar_equals case exact (scalar.Num a) (scalar.Num b) = int_eq a b
scalar_equals case exact (scalar.Text found) (scalar.Text wanted) = text_equals case exact found wanted
scalar_equals case exact scalar.Null (scalar.Bool b) = false
scalar_equals case exact scalar.Null (scalar.Num b) = false
scalar_equals case exact scalar.Null (scalar.Text wanted) = false
scalar_equals case exact (scalar.Bool a) scalar.Null = false
scalar_equals case exact (scalar.Bool a) (scalar.Num b) = false
scalar_equals case exact (scalar.Bool a) (scalar.Text wanted) = false
scalar_equals case exact (scalar.Num a) scalar.Null = false
scalar_equals case exact (scalar.Num a) (scalar.Bool b) = false
scalar_equals case exact (scalar.Num a) (scalar.Text wanted) = false
scalar_equals case exact (scalar.Text found) scalar.Null = false
scalar_equals case exact (scalar.Text found) (scalar.Bool b) = false
scalar_equals case exact (scalar.Text found) (scalar.Num b) = false

-- numbers are ordered by value and texts by their bytes; other scalars aren't, nor a number and a text
abbrev pub scalar_order : Scalar → Scalar → Option Ordering
scalar_order (scalar.Num a) (scalar.Num b) = Some (int_cmp a b)
scalar_order (scalar.Text a) (scalar.Text b) = Some (slice_cmp nat_cmp a b)
scalar_order (scalar.Num a) scalar.Null = None
scalar_order (scalar.Num a) (scalar.Bool b) = None
scalar_order (scalar.Num a) (scalar.Text b) = None
scalar_order (scalar.Text a) scalar.Null = None
scalar_order (scalar.Text a) (scalar.Bool b) = None
scalar_order (scalar.Text a) (scalar.Num b) = None
scalar_order scalar.Null b = None
scalar_order (scalar.Bool a) b = None

-- what an operator asks of the order
abbrev pub order_holds : Compare → Ordering → Bool
order_holds Lt order = is_lt order
order_holds Le order = not (is_gt order)
order_holds Gt order = is_gt order
order_holds Ge order = not (is_lt order)
order_holds Eq order = is_eq order
order_holds Ne order = not (is_eq order)

-- a scalar of a document (left) compares so with one of a query
abbrev pub in_range : Compare → Scalar → Scalar → Bool
in_range op found wanted = option_map_or (order_holds op) (scalar_order found wanted) false

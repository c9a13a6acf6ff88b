-- The rules that a query must keep.
use Rattle.std.specs.Prelude.{ℕ, ◌≡◌, ◌⊎◌, ◌+◌, ◌-◌, slice_index, ◌&&◌, Bool, true, false, not, nat_lt, nat_le, ◌==◌, List, [], ◌∷◌, ◌++◌, map, flat_map, length, sum, Option, Some, None, if◌then◌else◌}
use Rattle.std.specs.List.{list_all, list_any, filter_map, find}
use Rattle.std.specs.Str.{bytes_eq}
use Rattle.doc_model.specs.declared.indexes.Kind.{Kind}
use Rattle.doc_model.specs.declared.indexes.Kind.TheVariants as kind
use Rattle.doc_model.specs.declared.query.Query.{Query}
use Rattle.doc_model.specs.declared.query.Query.TheOpen.{Query-F}
use Rattle.doc_model.specs.declared.query.Query.TheFolds.{fold-Query}
use Rattle.doc_model.specs.declared.refusal.QueryBad.{QueryBad}
use Rattle.doc_model.specs.declared.refusal.QueryBad.TheVariants as rule
use Rattle.doc_model.specs.declared.scalar.Scalar.{Scalar}
use Rattle.doc_model.specs.declared.scalar.Scalar.TheVariants as scalar
use Rattle.doc_model.specs.Tree.{greatest}

-- a property's name and a kind of value
abbrev pub Index : Type 0
Index = List ℕ × Kind

-- the same kind
abbrev pub kind_eq : Kind → Kind → Bool
kind_eq kind.Decimal kind.Decimal = true
kind_eq kind.Text kind.Text = true
kind_eq kind.Decimal kind.Text = false
kind_eq kind.Text kind.Decimal = false

-- the same name and kind
abbrev pub index_eq : Index → Index → Bool
index_eq a b = bytes_eq a.0 b.0 && kind_eq a.1 b.1

-- there is such an index
abbrev pub is_indexed : List Index → Index → Bool
is_indexed indexes wanted = list_any (index_eq wanted) indexes

-- no index occurs twice
abbrev pub no_index_twice : List Index → Bool
no_index_twice [] = true
no_index_twice (index ∷ indexes) = not (is_indexed indexes index) && no_index_twice indexes

-- at most 64 distinct pairs
abbrev pub is_index_list : List Index → Bool
is_index_list indexes = nat_le (length indexes) 64 && no_index_twice indexes

-- what there is of each child of a query, in their order
abbrev pub children : {X : Type 0} → Query-F X → List X
children (Query-F.And queries) = queries
children (Query-F.Or queries) = queries
children (Query-F.Not query) = query ∷ []
children (Query-F.AndNot positive negative) = positive ∷ negative ∷ []
children (Query-F.Near queries distance ordered) = queries
children Query-F.True = []
children Query-F.False = []
children (Query-F.Word texts case) = []
children (Query-F.PropWord names texts case) = []
children (Query-F.PropValue names values case exact) = []
children (Query-F.Range names op values) = []
children (Query-F.Collection uris) = []
children (Query-F.Directory uris infinite) = []
children (Query-F.DocUri uris) = []

-- a query without children has depth 1, any other one more than its deepest child
abbrev pub depth_step : Query-F ℕ → ℕ
depth_step q = 1 + greatest (children q)

-- how many queries lie within each other
abbrev pub query_depth : Query → ℕ
query_depth = fold-Query ℕ depth_step

-- how many texts, names, values and URIs a query itself has
abbrev pub own_parts : {X : Type 0} → Query-F X → ℕ
own_parts (Query-F.Word texts case) = length texts
own_parts (Query-F.PropWord names texts case) = length names + length texts
own_parts (Query-F.PropValue names values case exact) = length names + length values
own_parts (Query-F.Range names op values) = length names + length values
own_parts (Query-F.Collection uris) = length uris
own_parts (Query-F.Directory uris infinite) = length uris
own_parts (Query-F.DocUri uris) = length uris
own_parts Query-F.True = 0
own_parts Query-F.False = 0
own_parts (Query-F.And queries) = 0
own_parts (Query-F.Or queries) = 0
own_parts (Query-F.Not query) = 0
own_parts (Query-F.AndNot positive negative) = 0
own_parts (Query-F.Near queries distance ordered) = 0

-- a query, its own parts and those of its children
abbrev pub count_step : Query-F ℕ → ℕ
count_step q = 1 + own_parts q + sum (children q)

-- how many queries, texts, names, values and URIs there are
abbrev pub query_count : Query → ℕ
query_count = fold-Query ℕ count_step

-- the last byte is a slash
abbrev pub ends_with_slash : List ℕ → Bool
ends_with_slash uri = nat_lt 0 (length uri) && (slice_index uri (length uri - 1) == 0x2F)

-- the URIs of directories in a query itself
abbrev pub own_directories : {X : Type 0} → Query-F X → List (List ℕ)
own_directories (Query-F.Directory uris infinite) = uris
own_directories Query-F.True = []
own_directories Query-F.False = []
own_directories (Query-F.And queries) = []
own_directories (Query-F.Or queries) = []
own_directories (Query-F.Not query) = []
own_directories (Query-F.AndNot positive negative) = []
own_directories (Query-F.Word texts case) = []
own_directories (Query-F.PropWord names texts case) = []
own_directories (Query-F.PropValue names values case exact) = []
own_directories (Query-F.Range names op values) = []
own_directories (Query-F.Near queries distance ordered) = []
own_directories (Query-F.Collection uris) = []
own_directories (Query-F.DocUri uris) = []

-- its own do, and those of its children
abbrev pub directories_step : Query-F Bool → Bool
directories_step q = list_all ends_with_slash (own_directories q) && list_all (λ child. child) (children q)

-- the URI of each directory ends with a slash
abbrev pub directories_end : Query → Bool
directories_end = fold-Query Bool directories_step

-- whether a query may be where it is; `in_near` says that this is among the children of a near query. A word query may be
-- anywhere, an or-query where its children may be, and any other query only outside near
abbrev pub fits_step : Query-F (Bool → Bool) → Bool → Bool
fits_step (Query-F.Word texts case) in_near = true
fits_step (Query-F.PropWord names texts case) in_near = true
fits_step (Query-F.Or queries) in_near = list_all (λ child. child in_near) queries
fits_step (Query-F.Near queries distance ordered) in_near = not in_near && list_all (λ child. child true) queries
fits_step (Query-F.And queries) in_near = not in_near && list_all (λ child. child false) queries
fits_step (Query-F.Not query) in_near = not in_near && query false
fits_step (Query-F.AndNot positive negative) in_near = not in_near && (positive false && negative false)
fits_step Query-F.True in_near = not in_near
fits_step Query-F.False in_near = not in_near
fits_step (Query-F.PropValue names values case exact) in_near = not in_near
fits_step (Query-F.Range names op values) in_near = not in_near
fits_step (Query-F.Collection uris) in_near = not in_near
fits_step (Query-F.Directory uris infinite) in_near = not in_near
fits_step (Query-F.DocUri uris) in_near = not in_near

abbrev pub fits : Query → Bool → Bool
fits = fold-Query (Bool → Bool) fits_step

-- it may be a child of near: a word query, of a property or not, or an or-query all of whose children may be
abbrev pub is_near_child : Query → Bool
is_near_child q = fits q true

-- the children of each near in the query may be there
abbrev pub near_children_fit : Query → Bool
near_children_fit q = fits q false

-- the kind of index that a value of a range query wants; null and booleans aren't ordered, and want none
abbrev pub kind_of : Scalar → Option Kind
kind_of (scalar.Num n) = Some kind.Decimal
kind_of (scalar.Text t) = Some kind.Text
kind_of scalar.Null = None
kind_of (scalar.Bool b) = None

-- each kind of the values
abbrev pub kinds_of : List Scalar → List Kind
kinds_of values = filter_map kind_of values

-- for each name in turn the kinds of the values in turn
abbrev pub range_indexes : List (List ℕ) → List Scalar → List Index
range_indexes names values = flat_map (λ name. map (λ k. (name, k)) (kinds_of values)) names

-- the indexes that a range query itself wants
abbrev pub own_indexes : {X : Type 0} → Query-F X → List Index
own_indexes (Query-F.Range names op values) = range_indexes names values
own_indexes Query-F.True = []
own_indexes Query-F.False = []
own_indexes (Query-F.And queries) = []
own_indexes (Query-F.Or queries) = []
own_indexes (Query-F.Not query) = []
own_indexes (Query-F.AndNot positive negative) = []
own_indexes (Query-F.Word texts case) = []
own_indexes (Query-F.PropWord names texts case) = []
own_indexes (Query-F.PropValue names values case exact) = []
own_indexes (Query-F.Near queries distance ordered) = []
own_indexes (Query-F.Collection uris) = []
own_indexes (Query-F.Directory uris infinite) = []
own_indexes (Query-F.DocUri uris) = []

-- a query's own come before those of its children
abbrev pub indexes_step : Query-F (List Index) → List Index
indexes_step q = own_indexes q ++ flat_map (λ child. child) (children q)

-- the indexes that a query wants, in preorder
abbrev pub wanted_indexes : Query → List Index
wanted_indexes = fold-Query (List Index) indexes_step

-- the first of some indexes that isn't there
abbrev pub first_missing : List Index → List Index → Option Index
first_missing indexes wanted = find (λ index. not (is_indexed indexes index)) wanted

-- the first index that a query wants and that isn't there
abbrev pub missing_index : Query → List Index → Option Index
missing_index q indexes = first_missing indexes (wanted_indexes q)

-- a missing index is refused with its name and kind
abbrev pub no_range : Option Index → Option QueryBad
no_range None = None
no_range (Some index) = Some (rule.NoRange index.0 index.1)

-- the first rule that a query breaks, beside these indexes
abbrev pub broken_query_rule : Query → List Index → Option QueryBad
broken_query_rule q indexes =
    if nat_lt 32 (query_depth q) then Some (rule.TooDeep 32)
    else if nat_lt 10_000 (query_count q) then Some (rule.TooMany 10_000)
    else if not (directories_end q) then Some rule.BadDirectory
    else if not (near_children_fit q) then Some rule.NearChild
    else no_range (missing_index q indexes)

-- a refusal names the first rule that is broken, or want of memory
abbrev pub RefusesQuery : Query → List Index → QueryBad → Type 0
RefusesQuery q indexes why = (why ≡ rule.Memory) ⊎ (broken_query_rule q indexes ≡ Some why)

-- What a JSON tree contains (RFC 8259, sections 3 to 5).
use Rattle.std.specs.Prelude.{ℕ, ◌≡◌, ◌<◌, Option, MatchOption, Bool, true, ◌&&◌, not, ◌+◌, max, List, [], ◌∷◌, map, length, sum, sum_by}
use Rattle.std.specs.List.{list_all, list_any}
use Rattle.std.specs.Str.{bytes_eq}
use Rattle.doc_model.specs.declared.node.Node.{Node}
use Rattle.doc_model.specs.declared.node.Node.TheOpen.{Node-F}
use Rattle.doc_model.specs.declared.node.Node.TheFolds.{fold-Node}

-- what is left of a budget once a cost is taken off; none where the cost is greater
abbrev pub Leaves : ℕ → ℕ → Option ℕ → Type 0
Leaves budget cost left = MatchOption left (budget < cost) (λ rest. rest + cost ≡ budget)

-- the nodes of a tree, and the bytes of its texts and names
abbrev pub size_step : Node-F ℕ → ℕ
size_step (Node-F.Text text) = 1 + length text
size_step (Node-F.Items items) = 1 + sum items
size_step (Node-F.Members members) = 1 + sum_by (λ member. length member.0 + member.1) members
size_step Node-F.Null = 1
size_step (Node-F.Bool b) = 1
size_step (Node-F.Num n) = 1

-- the size of a tree
abbrev pub size : Node → ℕ
size = fold-Node ℕ size_step

-- the greatest of some numbers, 0 of none
abbrev pub greatest : List ℕ → ℕ
greatest [] = 0
greatest (n ∷ ns) = max n (greatest ns)

-- a scalar has depth 0, an array or object one more than its deepest item or member
abbrev pub depth_step : Node-F ℕ → ℕ
depth_step (Node-F.Items items) = 1 + greatest items
depth_step (Node-F.Members members) = 1 + greatest (map (λ member. member.1) members)
depth_step Node-F.Null = 0
depth_step (Node-F.Bool b) = 0
depth_step (Node-F.Num n) = 0
depth_step (Node-F.Text text) = 0

-- how many arrays and objects enclose each other
abbrev pub depth : Node → ℕ
depth = fold-Node ℕ depth_step

-- a name is one of the names
abbrev pub is_among : List (List ℕ) → List ℕ → Bool
is_among names name = list_any (bytes_eq name) names

-- no name occurs twice
abbrev pub is_distinct : List (List ℕ) → Bool
is_distinct [] = true
is_distinct (name ∷ names) = not (is_among names name) && is_distinct names

-- the names of an object are distinct, and so it is in each item and member
abbrev pub names_step : Node-F Bool → Bool
names_step (Node-F.Items items) = list_all (λ item. item) items
names_step (Node-F.Members members) = is_distinct (map (λ member. member.0) members) && list_all (λ member. member.1) members
names_step Node-F.Null = true
names_step (Node-F.Bool b) = true
names_step (Node-F.Num n) = true
names_step (Node-F.Text text) = true

-- no object has two members of one name
abbrev pub has_distinct_names : Node → Bool
has_distinct_names = fold-Node Bool names_step

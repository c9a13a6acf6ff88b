-- Chains in memory: nodes that are linked by their indices in one list.
use Rattle.std.specs.Prelude.{ℕ, zero, suc, ◌≡◌, ◌≢◌, ◌+◌, ◌<◌, ◌≤◌, List, [], ◌∷◌, ◌++◌, All, length, slice_index_or, slice_set, sum_by}
use Rattle.post_pool.specs.declared.links.Ends.{Ends}
use Rattle.post_pool.specs.declared.links.Node.{Node}
use Rattle.post_pool.specs.declared.links.TheConstants.{NO_NODE}

-- what is read past the end of the nodes
abbrev pub no_node : Node
no_node = record { item = 0; next = NO_NODE }

-- the node at an index
abbrev pub node_at : List Node → ℕ → Node
node_at nodes at = slice_index_or nodes at no_node

-- an empty chain
abbrev pub no_ends : Ends
no_ends = record { first = NO_NODE; last = NO_NODE; len = 0 }

-- the ends of the chain with a number
abbrev pub ends_at : List Ends → ℕ → Ends
ends_at chains chain = slice_index_or chains chain no_ends

-- the items of so many nodes from an index on, each node behind the one before
abbrev pub items_from : List Node → ℕ → ℕ → List ℕ
items_from nodes at zero = []
items_from nodes at (suc n) = (node_at nodes at).item ∷ items_from nodes (node_at nodes at).next n

-- the items of a chain
abbrev pub items_of : List Node → Ends → List ℕ
items_of nodes ends = items_from nodes ends.first ends.len

-- from an index on so many nodes lead to the last one, and no node is behind that
abbrev pub LeadsTo : List Node → ℕ → ℕ → ℕ → Type 0
LeadsTo nodes last at zero = Unit {0}
LeadsTo nodes last at (suc zero) = (at ≡ last) × (at < length nodes) × ((node_at nodes at).next ≡ NO_NODE)
LeadsTo nodes last at (suc (suc n)) =
    (at < length nodes) × ((node_at nodes at).next ≢ NO_NODE) × LeadsTo nodes last (node_at nodes at).next (suc n)

-- a chain leads from its first node to its last one
abbrev pub IsChain : List Node → Ends → Type 0
IsChain nodes ends = LeadsTo nodes ends.last ends.first ends.len

-- two chains that have nodes don't end at one node
abbrev pub EndApart : List Ends → Type 0
EndApart chains = (c d : ℕ) → c < length chains → d < length chains → c ≢ d →
    0 < (ends_at chains c).len → 0 < (ends_at chains d).len → (ends_at chains c).last ≢ (ends_at chains d).last

-- the nodes are those of the chains, and there are no more nodes and chains than the limit
pub record IsLinked (limit : ℕ) (nodes : List Node) (chains : List Ends) : Type 0 where
  pub leads : All (IsChain nodes) chains
  pub apart : EndApart chains
  pub counted : length nodes ≡ sum_by (λ ends. ends.len) chains
  pub nodes_fit : length nodes ≤ limit
  pub chains_fit : length chains ≤ limit

-- the last node of a chain of some length leads to an index; an empty chain has none
abbrev pub linked_to : List Node → ℕ → ℕ → ℕ → List Node
linked_to nodes last index zero = nodes
linked_to nodes last index (suc n) =
    slice_set nodes last (record { item = (node_at nodes last).item; next = index })

-- a node that leads nowhere
abbrev pub end_node : ℕ → Node
end_node item = record { item = item; next = NO_NODE }

-- with a node behind a chain's last one
abbrev pub nodes_with : List Node → Ends → ℕ → List Node
nodes_with nodes ends item = linked_to nodes ends.last (length nodes) ends.len ++ end_node item ∷ []

-- where a chain of some length begins once it has a node at an index: there, if it was empty
abbrev pub first_with : ℕ → ℕ → ℕ → ℕ
first_with first index zero = index
first_with first index (suc n) = first

-- the ends of a chain with a node at an index behind its last one
abbrev pub ends_with : Ends → ℕ → Ends
ends_with ends index = record { first = first_with ends.first index ends.len; last = index; len = ends.len + 1 }

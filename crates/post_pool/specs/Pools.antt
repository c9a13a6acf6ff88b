-- What a pool holds, what a call adds to it, and when it is full.
use Rattle.std.specs.Prelude.{ℕ, ◌≡◌, ◌<◌, ◌≤◌, List, [], ◌∷◌, ◌++◌, length, slice_index_or, slice_set, sum_by, Result, Ok, Err}
use Rattle.post_pool.specs.declared.refusal.PoolRefusal.{PoolRefusal}
use Rattle.post_pool.specs.declared.refusal.PoolRefusal.TheVariants.{Full, Memory}

-- how many nodes and how many chains there may be, and the items of each chain in the order of their pushes
pub record Contents : Type 0 where
  pub limit : ℕ
  pub chains : List (List ℕ)

-- no chain
abbrev pub empty_pool : ℕ → Contents
empty_pool limit = record { limit = limit; chains = [] }

-- each item has a node of its own
abbrev pub node_count : Contents → ℕ
node_count pool = sum_by length pool.chains

-- the items of the chain with this number
abbrev pub items_in : Contents → ℕ → List ℕ
items_in pool chain = slice_index_or pool.chains chain []

-- with an empty chain behind the others
abbrev pub with_chain : Contents → Contents
with_chain pool = record { limit = pool.limit; chains = pool.chains ++ [] ∷ [] }

-- with an item at the end of one chain; the other chains are the same
abbrev pub with_item : Contents → ℕ → ℕ → Contents
with_item pool chain item =
    record { limit = pool.limit; chains = slice_set pool.chains chain (items_in pool chain ++ item ∷ []) }

-- a call is refused as full exactly where this count has reached the limit, and the refusal tells the limit
abbrev pub FullExactlyAt : {T : Type 0} → ℕ → ℕ → Result T PoolRefusal → Type 0
FullExactlyAt limit count (Ok answer) = count < limit
FullExactlyAt limit count (Err (Full nodes)) = (limit ≤ count) × (nodes ≡ limit)
FullExactlyAt limit count (Err Memory) = count < limit

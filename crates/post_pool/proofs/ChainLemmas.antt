-- The chains of a pool, before and after a call.
use Rattle.std.proofs.Common.{◌≡◌, ◌≢◌, ℕ, zero, suc, ◌+◌, ◌<◌, ◌≤◌, List, [], ◌∷◌, ◌++◌, All, length, map, set, get_or, sum_by, refl, sym, ap, ◌∙◌, subst, inl, inr, add-one, arith}
use Rattle.std.proofs.lemmas.Bool.{cases_eq, cases_lt}
use Rattle.std.proofs.lemmas.List.{get_or_append_left, get_or_default, get_or_push, get_or_read, get_or-map, get_or-set_other, get_or-set_same, length-map, length-set, length_push, same_lists}
use Rattle.std.proofs.lemmas.List.Elements.{All-push}
use Rattle.std.proofs.lemmas.List.Sums.{sum_by-cons, sum_by_more_le, sum_by_push, sum_by-set}
use Rattle.post_pool.specs.declared.links.Ends.{Ends}
use Rattle.post_pool.specs.declared.links.Node.{Node}
use Rattle.post_pool.specs.declared.links.TheConstants.{NO_NODE}
use Rattle.post_pool.specs.Links.{EndApart, IsChain, IsLinked, LeadsTo, end_node, ends_at, ends_with, first_with, items_from, items_of, linked_to, no_ends, nodes_with}
use Rattle.post_pool.specs.Pools.{Contents, node_count}
use Rattle.post_pool.proofs.LinkLemmas.{gained, kept, last_ends, length-items_from}

-- the nodes are as many as the items
pub node_count_is : (nodes : List Node) (chains : List Ends) →
    sum_by length (map (items_of nodes) chains) ≡ sum_by (λ (ends : Ends). ends.len) chains
node_count_is nodes [] = refl
node_count_is nodes (ends ∷ chains) =
    sum_by-cons (λ (items : List ℕ). length items) (items_of nodes ends) (map (items_of nodes) chains)
    ∙ ap (λ n. n + sum_by length (map (items_of nodes) chains)) (length-items_from nodes ends.first ends.len)
    ∙ ap (λ n. ends.len + n) (node_count_is nodes chains)
    ∙ sym (sum_by-cons (λ (e : Ends). e.len) ends chains)

pub node_count_of : (limit : ℕ) (nodes : List Node) (chains : List Ends) (pool : Contents) →
    IsLinked limit nodes chains →
    record { limit = limit; chains = map (items_of nodes) chains } ≡ pool → node_count pool ≡ length nodes
node_count_of limit nodes chains pool linked is =
    sym (ap node_count is) ∙ node_count_is nodes chains ∙ sym linked.counted

-- a chain of the pool has ends
pub has_ends : (limit : ℕ) (nodes : List Node) (chains : List Ends) (pool : Contents) (c : ℕ) →
    record { limit = limit; chains = map (items_of nodes) chains } ≡ pool → c < length pool.chains → c < length chains
has_ends limit nodes chains pool c is lt =
    omega (arith, lt, ap (λ (p : Contents). length p.chains) is, length-map chains (items_of nodes))

-- the ends that were read of a chain
pub ends_read : (chains : List Ends) (c at : ℕ) (ends : Ends) → c < length chains → ends ≡ get_or chains at ends →
    at ≡ c →
    ends ≡ ends_at chains c
ends_read chains c at ends lt is at_is =
    get_or_read chains c ends lt (is ∙ ap (λ i. get_or chains i ends) at_is) no_ends

-- the items of one chain
pub items_at : (nodes : List Node) (chains : List Ends) (c : ℕ) → c < length chains →
    get_or (map (items_of nodes) chains) c [] ≡ items_of nodes (ends_at chains c)
items_at nodes chains c lt = get_or-map (items_of nodes) chains c no_ends [] lt

-- a link leaves the number of nodes
length-linked_to : (nodes : List Node) (last index len : ℕ) → length (linked_to nodes last index len) ≡ length nodes
length-linked_to nodes last index zero = refl
length-linked_to nodes last index (suc n) = length-set nodes last _

length-nodes_with : (nodes : List Node) (ends : Ends) (item : ℕ) →
    length (nodes_with nodes ends item) ≡ length nodes + 1
length-nodes_with nodes ends item =
    length_push (linked_to nodes ends.last (length nodes) ends.len) (end_node item)
    ∙ ap (λ n. n + 1) (length-linked_to nodes ends.last (length nodes) ends.len)

-- a chain with nodes isn't the one that was added
is_old : (chains : List Ends) (c : ℕ) → c < length (chains ++ no_ends ∷ []) →
    0 < (ends_at (chains ++ no_ends ∷ []) c).len → c < length chains
is_old chains c lt some =
    elim (cases_lt c (length chains)) [
      | inl old ↦ old
      | inr new ↦
          let last : length chains ≡ c = omega (arith, lt, new, length_push chains no_ends) in
          let none = ap (λ (ends : Ends). ends.len) (get_or_push chains no_ends no_ends c last) in
          absurd (omega (arith, some, none))
    ]

-- the ends of the other chains, once those of one are replaced
other_ends : (chains : List Ends) (ends : Ends) (c d : ℕ) → d ≢ c → ends_at (set chains c ends) d ≡ ends_at chains d
other_ends chains ends c d ne = get_or-set_other chains c d ends no_ends ne

own_ends : (chains : List Ends) (ends : Ends) (c d : ℕ) → c < length chains → d ≡ c →
    ends_at (set chains c ends) d ≡ ends
own_ends chains ends c d lt is =
    ap (ends_at (set chains c ends)) is ∙ get_or-set_same chains c ends no_ends lt

module _ (limit : ℕ) (nodes : List Node) (chains : List Ends) (linked : IsLinked limit nodes chains) where
  chain_is : (c : ℕ) → c < length chains → IsChain nodes (ends_at chains c)
  chain_is c lt = linked.leads c no_ends lt

  -- what `walk` and `push` need of a chain
  pub len_fits : (c : ℕ) → c < length chains → (ends_at chains c).len ≤ length nodes
  len_fits c lt =
      omega (arith, sum_by_more_le (λ (ends : Ends). ends.len) chains c no_ends lt, linked.counted)

  pub last_fits : (c : ℕ) → c < length chains → 0 < (ends_at chains c).len → (ends_at chains c).last < length nodes
  last_fits c lt some =
      (last_ends nodes (ends_at chains c).last (ends_at chains c).first (ends_at chains c).len some (chain_is c lt)).0

  -- an empty chain behind the others
  pub linked_with_chain : length chains < limit → IsLinked limit nodes (chains ++ no_ends ∷ [])
  linked_with_chain room = record {
    leads = All-push (IsChain nodes) chains no_ends linked.leads tt;
    apart = λ c d c_lt d_lt ne c_some d_some.
        let c_old = is_old chains c c_lt c_some in
        let d_old = is_old chains d d_lt d_some in
        let c_is = get_or_append_left chains (no_ends ∷ []) no_ends c c_old in
        let d_is = get_or_append_left chains (no_ends ∷ []) no_ends d d_old in
        λ same. linked.apart c d c_old d_old ne
        (subst (λ (ends : Ends). 0 < ends.len) c_is c_some) (subst (λ (ends : Ends). 0 < ends.len) d_is d_some)
        (ap (λ (ends : Ends). ends.last) (sym c_is) ∙ same ∙ ap (λ (ends : Ends). ends.last) d_is);
    counted = omega (arith, linked.counted, sum_by_push (λ (ends : Ends). ends.len) chains no_ends);
    nodes_fit = linked.nodes_fit;
    chains_fit = omega (arith, length_push chains no_ends, room);
  }

  module _ (c item : ℕ) (in' : c < length chains) (room : length nodes < limit) (small : limit ≤ NO_NODE) where
    -- the other chains are the same
    others : (d : ℕ) → d < length chains → d ≢ c → let nodes' = nodes_with nodes (ends_at chains c) item in
        (items_of nodes' (ends_at chains d) ≡ items_of nodes (ends_at chains d)) × IsChain nodes' (ends_at chains d)
    others d lt ne =
        let e = ends_at chains c in
        let f = ends_at chains d in
        kept nodes e.last e.first e.len item f.last f.first f.len (chain_is c in') (chain_is d lt)
        (λ e_some f_some. linked.apart d c lt in' ne f_some e_some)

    -- the chain has the item at its end
    own : let e = ends_at chains c in
        let nodes' = nodes_with nodes e item in
        let e' = ends_with e (length nodes) in
        (items_of nodes' e' ≡ items_of nodes e ++ item ∷ []) × IsChain nodes' e'
    own =
        let e = ends_at chains c in
        let nodes' = nodes_with nodes e item in
        let first = first_with e.first (length nodes) e.len in
        let some : length nodes ≢ NO_NODE = omega (arith, room, small) in
        subst
        (λ n. (items_from nodes' first n ≡ items_of nodes e ++ item ∷ []) × LeadsTo nodes' (length nodes) first n)
        (sym (add-one e.len)) (gained nodes e.last e.first e.len item some (chain_is c in'))

    leads_on : let nodes' = nodes_with nodes (ends_at chains c) item in
        All (IsChain nodes') (set chains c (ends_with (ends_at chains c) (length nodes)))
    leads_on k d lt =
        let nodes' = nodes_with nodes (ends_at chains c) item in
        let e' = ends_with (ends_at chains c) (length nodes) in
        let within : k < length chains = omega (arith, lt, length-set chains c e') in
        let to_end = get_or_default (set chains c e') k no_ends d lt in
        elim (cases_eq k c) [
          | inl is ↦ subst (IsChain nodes') (sym (own_ends chains e' c k in' is) ∙ to_end) own.1
          | inr ne ↦ subst (IsChain nodes') (sym (other_ends chains e' c k ne) ∙ to_end) (others k within ne).1
        ]

    -- the new last node is behind all others
    apart_on : EndApart (set chains c (ends_with (ends_at chains c) (length nodes)))
    apart_on a b a_lt b_lt ne a_some b_some =
        let e' = ends_with (ends_at chains c) (length nodes) in
        let long = length-set chains c e' in
        let a_in : a < length chains = omega (arith, a_lt, long) in
        let b_in : b < length chains = omega (arith, b_lt, long) in
        elim (cases_eq a c) [
          | inl a_is ↦
              let b_ne : b ≢ c = λ b_is. ne (a_is ∙ sym b_is) in
              let a_end = ap (λ (ends : Ends). ends.last) (own_ends chains e' c a in' a_is) in
              let b_ends = other_ends chains e' c b b_ne in
              let b_end = ap (λ (ends : Ends). ends.last) b_ends in
              let fits = last_fits b b_in (subst (λ (ends : Ends). 0 < ends.len) b_ends b_some) in
              omega (arith, a_end, b_end, fits)
          | inr a_ne ↦ elim (cases_eq b c) [
            | inl b_is ↦
                let b_end = ap (λ (ends : Ends). ends.last) (own_ends chains e' c b in' b_is) in
                let a_ends = other_ends chains e' c a a_ne in
                let a_end = ap (λ (ends : Ends). ends.last) a_ends in
                let fits = last_fits a a_in (subst (λ (ends : Ends). 0 < ends.len) a_ends a_some) in
                omega (arith, a_end, b_end, fits)
            | inr b_ne ↦
                let a_ends = other_ends chains e' c a a_ne in
                let b_ends = other_ends chains e' c b b_ne in
                λ same. linked.apart a b a_in b_in ne
                (subst (λ (ends : Ends). 0 < ends.len) a_ends a_some)
                (subst (λ (ends : Ends). 0 < ends.len) b_ends b_some)
                (ap (λ (ends : Ends). ends.last) (sym a_ends) ∙ same ∙ ap (λ (ends : Ends). ends.last) b_ends)
          ]
        ]

    linked_with_item : let e = ends_at chains c in
        IsLinked limit (nodes_with nodes e item) (set chains c (ends_with e (length nodes)))
    linked_with_item =
        let e = ends_at chains c in
        let e' = ends_with e (length nodes) in
        let long = length-nodes_with nodes e item in
        record {
          leads = leads_on;
          apart = apart_on;
          counted = omega (arith, long, linked.counted, sum_by-set (λ (ends : Ends). ends.len) chains c e' no_ends in');
          nodes_fit = omega (arith, long, room);
          chains_fit = omega (arith, length-set chains c e', linked.chains_fit);
        }

    items_with_item : let e = ends_at chains c in
        map (items_of (nodes_with nodes e item)) (set chains c (ends_with e (length nodes)))
        ≡ set (map (items_of nodes) chains) c (get_or (map (items_of nodes) chains) c [] ++ item ∷ [])
    items_with_item =
        let e = ends_at chains c in
        let e' = ends_with e (length nodes) in
        let nodes' = nodes_with nodes e item in
        let lists = map (items_of nodes) chains in
        let list = get_or lists c [] ++ item ∷ [] in
        let long = length-map (set chains c e') (items_of nodes') in
        let long' = length-set chains c e' in
        let count = length-map chains (items_of nodes) in
        let count' = length-set lists c list in
        same_lists (map (items_of nodes') (set chains c e')) (set lists c list)
        (omega (arith, long, long', count, count'))
        (λ k d lt.
        let set_lt : k < length (set chains c e') = omega (arith, lt, long) in
        let within : k < length chains = omega (arith, set_lt, long') in
        let c_in : c < length lists = omega (arith, in', count) in
        let mapped = get_or-map (items_of nodes') (set chains c e') k no_ends d set_lt in
        elim (cases_eq k c) [
          | inl is ↦
              mapped ∙ ap (items_of nodes') (own_ends chains e' c k in' is) ∙ own.0
              ∙ ap (λ items. items ++ item ∷ []) (sym (items_at nodes chains c in'))
              ∙ sym (ap (λ i. get_or (set lists c list) i d) is ∙ get_or-set_same lists c list d c_in)
          | inr ne ↦
              mapped ∙ ap (items_of nodes') (other_ends chains e' c k ne) ∙ (others k within ne).0
              ∙ sym (get_or-map (items_of nodes) chains k no_ends d within)
              ∙ sym (get_or-set_other lists c k list d ne)
        ])

-- what a push leaves, in the words of its calls
pub pushed : (limit : ℕ) (nodes : List Node) (chains : List Ends) → IsLinked limit nodes chains → (c item : ℕ) →
    c < length chains → length nodes < limit → limit ≤ NO_NODE →
    (ends ends' : Ends) (new : List Node) (at count : ℕ) → at ≡ c → ends ≡ ends_at chains c → count ≡ length nodes →
    new ≡ nodes_with nodes ends item → ends' ≡ ends_with ends count →
    IsLinked limit new (set chains at ends')
    × (map (items_of new) (set chains at ends')
    ≡ set (map (items_of nodes) chains) c (get_or (map (items_of nodes) chains) c [] ++ item ∷ []))
pushed limit nodes chains linked c item in' room small ends ends' new at count at_is ends_is count_is new_is ends'_is =
    let new_is' = new_is ∙ ap (λ e. nodes_with nodes e item) ends_is in
    let ends'_is' = ends'_is ∙ ap (ends_with ends) count_is ∙ ap (λ e. ends_with e (length nodes)) ends_is in
    let chains_is = ap (λ e. set chains at e) ends'_is'
    ∙ ap (λ i. set chains i (ends_with (ends_at chains c) (length nodes))) at_is in (
      subst (λ n. IsLinked limit n (set chains at ends')) (sym new_is')
          (subst (IsLinked limit (nodes_with nodes (ends_at chains c) item)) (sym chains_is)
          (linked_with_item limit nodes chains linked c item in' room small)),
      ap (λ n. map (items_of n) (set chains at ends')) new_is'
          ∙ ap (map (items_of (nodes_with nodes (ends_at chains c) item))) chains_is
          ∙ items_with_item limit nodes chains linked c item in' room small,
    )

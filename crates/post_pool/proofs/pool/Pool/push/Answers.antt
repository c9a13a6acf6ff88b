use Rattle.std.proofs.Common.{◌≡◌, ◌<◌, ◌∷◌, ◌++◌, [], length, map, set, get_or, vec_len, ap, ◌∙◌, subst, arith, rules}
use Rattle.post_pool.specs.declared.links.Ends.{Ends}
use Rattle.post_pool.specs.Links.{IsLinked, items_of, nodes_with}
use Rattle.post_pool.specs.Pools.{Contents, node_count, with_item}
use Rattle.post_pool.proofs.ChainLemmas.{ends_read, has_ends, last_fits, node_count_of, pushed}
use Rattle.post_pool.proofs.pool.Pool.push.Goals as goal
use Rattle.post_pool.proofs.pool.Pool.push.Goals.{After-append-ends, After-len}

limit_is : (c : After-len) → c.self.inside.limit ≡ c.args.self.now.limit
limit_is c = ap (λ (pool : Contents). pool.limit) c.self.view_is

count_is : (c : After-len) → node_count c.args.self.now ≡ length c.self.inside.nodes.items
count_is c =
    let pool = c.self.inside in
    node_count_of pool.limit pool.nodes.items pool.chains.items c.args.self.now c.self.invariant c.self.view_is

pub returns-then-len-self-clause-full : goal.returns-then-len-self-clause-full
returns-then-len-self-clause-full c =
    let at = (goal.at.returns-then-len-self-clause-full c).After-len in
    (omega (arith, limit_is at, count_is at), limit_is at)

pub returns-in_err-make_room-clause-full : goal.returns-in_err-make_room-clause-full
returns-in_err-make_room-clause-full c =
    let at = (goal.at.returns-in_err-make_room-clause-full c).After-len in
    let room : node_count c.args.self.now < c.args.self.now.limit = omega (arith, limit_is at, count_is at) in
    search rules

pub append-ends-requires-clause-last : goal.append-ends-requires-clause-last
append-ends-requires-clause-last c =
    let pool = c.self.inside in
    let chains = pool.chains.items in
    let in' = has_ends pool.limit pool.nodes.items chains c.args.self.now c.args.chain c.self.view_is c.requires in
    let ends = ends_read chains c.args.chain c.index-index.result c.index.result.now in' c.index.ensures
    c.index-index.ensures in
    λ some.
    let fits = last_fits pool.limit pool.nodes.items chains c.self.invariant c.args.chain in'
    (subst (λ (e : Ends). 0 < e.len) ends some) in
    omega (arith, fits, ap (λ (e : Ends). e.last) ends, ap length c.in_ok-make_room.ensures.items)

push_is : (c : After-append-ends) →
    let pool = c.self.inside in
    let chains = set pool.chains.items c.index-index.result c.append-ends.result in
    let lists = map (items_of pool.nodes.items) pool.chains.items in
    IsLinked pool.limit c.append-ends.new.nodes.items chains
    × (map (items_of c.append-ends.new.nodes.items) chains
    ≡ set lists c.args.chain (get_or lists c.args.chain [] ++ c.args.item ∷ []))
push_is c =
    let pool = c.self.inside in
    let chains = pool.chains.items in
    let in' = has_ends pool.limit pool.nodes.items chains c.args.self.now c.args.chain c.self.view_is c.requires in
    let ends = ends_read chains c.args.chain c.index-index.result c.index.result.now in' c.index.ensures
    c.index-index.ensures in
    pushed pool.limit pool.nodes.items chains c.self.invariant c.args.chain c.args.item in'
    (omega arith) (omega arith) c.index.result.now c.append-ends.result c.append-ends.new.nodes.items
    c.index-index.result (vec_len c.make_room.new.list) c.index-index.ensures ends
    (omega (arith, ap length c.in_ok-make_room.ensures.items))
    (c.append-ends.ensures.nodes
    ∙ ap (λ nodes. nodes_with nodes c.index.result.now c.args.item) c.in_ok-make_room.ensures.items)
    c.append-ends.ensures.ends

pub invariant_of-self-2 : goal.invariant_of-self-2
invariant_of-self-2 c = (push_is (goal.at.invariant_of-self-2 c).After-append-ends).0

pub returns-clause-ok : goal.returns-clause-ok
returns-clause-ok c =
    let pool = c.self.inside in
    ap (λ chains. record { limit = pool.limit; chains = chains })
    (push_is (goal.at.returns-clause-ok c).After-append-ends).1
    ∙ ap (λ (before : Contents). with_item before c.args.chain c.args.item) c.self.view_is

pub returns-clause-full : goal.returns-clause-full
returns-clause-full c =
    let at = (goal.at.returns-clause-full c).After-len in
    omega (arith, limit_is at, count_is at)

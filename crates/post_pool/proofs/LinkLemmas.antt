-- What one more node does to a chain that it isn't in, and to the one that it is in.
use Rattle.std.proofs.Common.{◌≡◌, ◌≢◌, ℕ, zero, suc, ◌-◌, ◌<◌, ◌≤◌, List, [], ◌∷◌, ◌++◌, length, set, append_assoc, refl, sym, ap, ◌∙◌, subst, arith}
use Rattle.std.proofs.lemmas.List.{get_or_append_left, get_or_past, get_or_push, get_or-set_other, get_or-set_same, length-set, length_push}
use Rattle.post_pool.specs.declared.links.Node.{Node}
use Rattle.post_pool.specs.declared.links.TheConstants.{NO_NODE}
use Rattle.post_pool.specs.Links.{LeadsTo, end_node, first_with, items_from, linked_to, node_at, no_node}

pub length-items_from : (nodes : List Node) (at n : ℕ) → length (items_from nodes at n) ≡ n
length-items_from nodes at zero = refl
length-items_from nodes at (suc n) = ap suc (length-items_from nodes (node_at nodes at).next n)

-- the last node of a chain is there, and leads nowhere
pub last_ends : (nodes : List Node) (last at n : ℕ) → 0 < n → LeadsTo nodes last at n →
    (last < length nodes) × ((node_at nodes last).next ≡ NO_NODE)
last_ends nodes last at zero some leads = absurd (omega arith)
last_ends nodes last at (suc zero) some leads =
    (subst (λ p. p < length nodes) leads.0 leads.1, subst (λ p. (node_at nodes p).next ≡ NO_NODE) leads.0 leads.2)
last_ends nodes last at (suc (suc n)) some leads =
    last_ends nodes last (node_at nodes at).next (suc n) (omega arith) leads.2

-- the nodes change at one index alone, whose node led nowhere, and behind their end
pub record Grows (nodes nodes' : List Node) (end : ℕ) : Type 0 where
  pub longer : length nodes ≤ length nodes'
  pub ended : (node_at nodes end).next ≡ NO_NODE
  pub same : (at : ℕ) → at < length nodes → at ≢ end → node_at nodes' at ≡ node_at nodes at

module _ (nodes nodes' : List Node) (end : ℕ) (grows : Grows nodes nodes' end) where
  -- a node that leads on is the same
  same_before : (at : ℕ) → at < length nodes → (node_at nodes at).next ≢ NO_NODE → node_at nodes' at ≡ node_at nodes at
  same_before at lt on = grows.same at lt (λ is. on (ap (λ p. (node_at nodes p).next) is ∙ grows.ended))

  -- a chain that ends elsewhere has the same items
  pub items_kept : (last at n : ℕ) → last ≢ end → LeadsTo nodes last at n →
      items_from nodes' at n ≡ items_from nodes at n
  items_kept last at zero apart leads = refl
  items_kept last at (suc zero) apart leads =
      ap (λ (node : Node). node.item ∷ []) (grows.same at leads.1 (λ is. apart (sym leads.0 ∙ is)))
  items_kept last at (suc (suc n)) apart leads =
      ap (λ (node : Node). node.item ∷ items_from nodes' node.next (suc n)) (same_before at leads.0 leads.1)
      ∙ ap (λ items. (node_at nodes at).item ∷ items) (items_kept last (node_at nodes at).next (suc n) apart leads.2)

  -- and still leads to its last node
  pub leads_kept : (last at n : ℕ) → last ≢ end → LeadsTo nodes last at n → LeadsTo nodes' last at n
  leads_kept last at zero apart leads = tt
  leads_kept last at (suc zero) apart leads =
      let here = grows.same at leads.1 (λ is. apart (sym leads.0 ∙ is)) in
      let lt : at < length nodes' = omega (arith, leads.1, grows.longer) in
      (leads.0, lt, ap (λ (node : Node). node.next) here ∙ leads.2)
  leads_kept last at (suc (suc n)) apart leads =
      let next = ap (λ (node : Node). node.next) (same_before at leads.0 leads.1) in
      let lt : at < length nodes' = omega (arith, leads.0, grows.longer) in (
        lt,
        λ none. leads.1 (sym next ∙ none),
        subst (λ p. LeadsTo nodes' last p (suc n)) (sym next)
            (leads_kept last (node_at nodes at).next (suc n) apart leads.2),
      )

  module _ (item index : ℕ) (some : index ≢ NO_NODE) (in' : index < length nodes')
      (here : node_at nodes' end ≡ record { item = (node_at nodes end).item; next = index })
      (new : node_at nodes' index ≡ end_node item) where
    -- the chain that ended there has one item more
    pub items_grown : (at n : ℕ) → LeadsTo nodes end at (suc n) →
        items_from nodes' at (suc (suc n)) ≡ items_from nodes at (suc n) ++ item ∷ []
    items_grown at zero leads =
        ap (λ (node : Node). node.item ∷ (node_at nodes' node.next).item ∷ []) (ap (node_at nodes') leads.0 ∙ here)
        ∙ ap (λ (node : Node). (node_at nodes end).item ∷ node.item ∷ []) new
        ∙ ap (λ p. (node_at nodes p).item ∷ item ∷ []) (sym leads.0)
    items_grown at (suc n) leads =
        ap (λ (node : Node). node.item ∷ items_from nodes' node.next (suc (suc n))) (same_before at leads.0 leads.1)
        ∙ ap (λ items. (node_at nodes at).item ∷ items) (items_grown (node_at nodes at).next n leads.2)

    -- and leads to the new node
    pub leads_grown : (at n : ℕ) → LeadsTo nodes end at (suc n) → LeadsTo nodes' index at (suc (suc n))
    leads_grown at zero leads =
        let next = ap (λ (node : Node). node.next) (ap (node_at nodes') leads.0 ∙ here) in
        let lt : at < length nodes' = omega (arith, leads.1, grows.longer) in (
          lt,
          λ none. some (sym next ∙ none),
          (
            next,
            subst (λ p. p < length nodes') (sym next) in',
            ap (λ p. (node_at nodes' p).next) next ∙ ap (λ (node : Node). node.next) new,
          ),
        )
    leads_grown at (suc n) leads =
        let next = ap (λ (node : Node). node.next) (same_before at leads.0 leads.1) in
        let lt : at < length nodes' = omega (arith, leads.0, grows.longer) in (
          lt,
          λ none. leads.1 (sym next ∙ none),
          subst (λ p. LeadsTo nodes' index p (suc (suc n))) (sym next)
              (leads_grown (node_at nodes at).next n leads.2),
        )

-- a node behind an empty chain
grows_alone : (nodes : List Node) (item : ℕ) → Grows nodes (nodes ++ end_node item ∷ []) (length nodes)
grows_alone nodes item = record {
  longer = omega (arith, length_push nodes (end_node item));
  ended = ap (λ (node : Node). node.next) (get_or_past nodes (length nodes) no_node (omega arith));
  same = λ at lt ne. get_or_append_left nodes (end_node item ∷ []) no_node at lt;
}

-- a last node that leads to the index behind all nodes
abbrev led : List Node → ℕ → Node
led nodes last = record { item = (node_at nodes last).item; next = length nodes }

-- a node behind a last one
abbrev grown : List Node → ℕ → ℕ → List Node
grown nodes last item = set nodes last (led nodes last) ++ end_node item ∷ []

module _ (nodes : List Node) (last item : ℕ) (in' : last < length nodes) where
  grows_behind : (node_at nodes last).next ≡ NO_NODE → Grows nodes (grown nodes last item) last
  grows_behind ended =
      let long = length-set nodes last (led nodes last) in
      record {
        longer = omega (arith, length_push (set nodes last (led nodes last)) (end_node item), long);
        ended = ended;
        same = λ at lt ne.
            let within : at < length (set nodes last (led nodes last)) = omega (arith, long, lt) in
            get_or_append_left (set nodes last (led nodes last)) (end_node item ∷ []) no_node at within
            ∙ get_or-set_other nodes last at (led nodes last) no_node ne;
      }

  at_last : node_at (grown nodes last item) last ≡ led nodes last
  at_last =
      let long = length-set nodes last (led nodes last) in
      let within : last < length (set nodes last (led nodes last)) = omega (arith, long, in') in
      get_or_append_left (set nodes last (led nodes last)) (end_node item ∷ []) no_node last within
      ∙ get_or-set_same nodes last (led nodes last) no_node in'

  at_end : node_at (grown nodes last item) (length nodes) ≡ end_node item
  at_end =
      get_or_push (set nodes last (led nodes last)) (end_node item) no_node (length nodes)
      (length-set nodes last (led nodes last))

  end_within : length nodes < length (grown nodes last item)
  end_within =
      omega (
        arith,
        length_push (set nodes last (led nodes last)) (end_node item),
        length-set nodes last (led nodes last),
      )

-- the nodes with one more behind a chain of some length
abbrev more : List Node → ℕ → ℕ → ℕ → List Node
more nodes last len item = linked_to nodes last (length nodes) len ++ end_node item ∷ []

-- a chain keeps its items when a node goes behind one that ends elsewhere
pub kept : (nodes : List Node) (last first len item last' first' len' : ℕ) →
    LeadsTo nodes last first len → LeadsTo nodes last' first' len' → (0 < len → 0 < len' → last' ≢ last) →
    (items_from (more nodes last len item) first' len' ≡ items_from nodes first' len')
    × LeadsTo (more nodes last len item) last' first' len'
kept nodes last first len item last' first' zero leads leads' apart = (refl, tt)
kept nodes last first zero item last' first' (suc m) leads leads' apart =
    let lt = (last_ends nodes last' first' (suc m) (omega arith) leads').0 in
    let ne : last' ≢ length nodes = omega (arith, lt) in
    let grows = grows_alone nodes item in (
      items_kept nodes (nodes ++ end_node item ∷ []) (length nodes) grows last' first' (suc m) ne leads',
      leads_kept nodes (nodes ++ end_node item ∷ []) (length nodes) grows last' first' (suc m) ne leads',
    )
kept nodes last first (suc n) item last' first' (suc m) leads leads' apart =
    let end = last_ends nodes last first (suc n) (omega arith) leads in
    let ne = apart (omega arith) (omega arith) in
    let grows = grows_behind nodes last item end.0 end.1 in (
      items_kept nodes (grown nodes last item) last grows last' first' (suc m) ne leads',
      leads_kept nodes (grown nodes last item) last grows last' first' (suc m) ne leads',
    )

-- the chain that the node goes behind has the item at its end
pub gained : (nodes : List Node) (last first len item : ℕ) → length nodes ≢ NO_NODE → LeadsTo nodes last first len →
    (items_from (more nodes last len item) (first_with first (length nodes) len) (suc len)
    ≡ items_from nodes first len ++ item ∷ [])
    × LeadsTo (more nodes last len item) (length nodes) (first_with first (length nodes) len) (suc len)
gained nodes last first zero item some leads =
    let new = get_or_push nodes (end_node item) no_node (length nodes) refl in
    let lt : length nodes < length (nodes ++ end_node item ∷ []) = omega (arith, length_push nodes (end_node item)) in
    (ap (λ (node : Node). node.item ∷ []) new, (refl, lt, ap (λ (node : Node). node.next) new))
gained nodes last first (suc n) item some leads =
    let end = last_ends nodes last first (suc n) (omega arith) leads in
    let grows = grows_behind nodes last item end.0 end.1 in
    let here = at_last nodes last item end.0 in
    let new = at_end nodes last item end.0 in
    let lt = end_within nodes last item end.0 in (
      items_grown nodes (grown nodes last item) last grows item (length nodes) some lt here new first n leads,
      leads_grown nodes (grown nodes last item) last grows item (length nodes) some lt here new first n leads,
    )

-- a step along a chain
pub along : (nodes : List Node) (last at n : ℕ) → 0 < n → LeadsTo nodes last at n →
    (at < length nodes) × LeadsTo nodes last (node_at nodes at).next (n - 1)
    × (items_from nodes at n ≡ (node_at nodes at).item ∷ items_from nodes (node_at nodes at).next (n - 1))
along nodes last at zero some leads = absurd (omega arith)
along nodes last at (suc zero) some leads = (leads.1, tt, refl)
along nodes last at (suc (suc n)) some leads =
    let less : suc n ≡ suc (suc n) - 1 = omega arith in (
      leads.0,
      subst (LeadsTo nodes last (node_at nodes at).next) less leads.2,
      ap (λ k. (node_at nodes at).item ∷ items_from nodes (node_at nodes at).next k) less,
    )

-- what is gathered and what is left make the chain
pub gathered_more : (nodes : List Node) (out new all : List ℕ) (node : Node) (at left : ℕ) →
    new ≡ out ++ node.item ∷ [] →
    node ≡ node_at nodes at →
    items_from nodes at left ≡ (node_at nodes at).item ∷ items_from nodes (node_at nodes at).next (left - 1) →
    out ++ items_from nodes at left ≡ all → new ++ items_from nodes node.next (left - 1) ≡ all
gathered_more nodes out new all node at left is read step whole =
    ap (λ items. items ++ items_from nodes node.next (left - 1)) is
    ∙ append_assoc out (node.item ∷ []) (items_from nodes node.next (left - 1))
    ∙ ap (λ (n : Node). out ++ n.item ∷ items_from nodes n.next (left - 1)) read ∙ ap (λ items. out ++ items) (sym step)
    ∙ whole

use Rattle.std.proofs.Common.{◌≡◌, ℕ, Result, Ok, Err, IfOk, Bool, map, ◌∙◌, sym, ap, List, ◌&&◌}
use Rattle.std.specs.List.{list_all}
use Rattle.doc_model.specs.declared.node.Node.{Node}
use Rattle.doc_model.specs.declared.node.Node.TheVariants as node
use Rattle.doc_model.specs.Tree.{has_distinct_names, is_distinct}
use Rattle.doc_model.proofs.NamesLemmas.{names_items, names_members}
use Rattle.doc_model.proofs.names.+names.Goals as goal

same_names : {E : Type 0} (r : Result Bool E) (a b : Bool) → a ≡ b → IfOk r (λ v. v ≡ a) → IfOk r (λ v. v ≡ b)
same_names (Ok v) a b h is = is ∙ h
same_names (Err e) a b h is = tt

-- the names of an object, and then its values
members_named : (n : Node) (members : List (List ℕ × Node)) (named : Bool) → n ≡ node.Members members →
    is_distinct (map (λ m. m.0) members) ≡ named →
    has_distinct_names n ≡ (named && list_all (λ m. has_distinct_names m.1) members)
members_named n members named is h =
    ap has_distinct_names is ∙ names_members members ∙ ap (λ b. b && list_all (λ m. has_distinct_names m.1) members) h

in_slice : (slice members : List (List ℕ × Node)) → slice ≡ members → is_distinct (map (λ m. m.0) slice) ≡ is_distinct
    (map (λ m. m.0) members)
in_slice slice members is = ap (λ ms. is_distinct (map (λ m. m.0) ms)) is

pub has_distinct_names-returns-then-not-branch : goal.has_distinct_names-returns-then-not-branch
has_distinct_names-returns-then-not-branch t c =
    sym (members_named c.args.node.now c.in-Members.members _ c.in-Members.is (sym (in_slice _ _ c.as_slice.ensures) ∙
    sym c.in_ok-is_distinct-in-Members.ensures ∙ c.if-not-branch.true))

pub has_distinct_names-returns-in-Items : goal.has_distinct_names-returns-in-Items
has_distinct_names-returns-in-Items t c = same_names _ _ _
    (sym (ap has_distinct_names c.in-Items.is ∙ names_items c.in-Items.items)) c.items_distinct.ensures

pub has_distinct_names-returns-else-not-branch : goal.has_distinct_names-returns-else-not-branch
has_distinct_names-returns-else-not-branch t c =
    same_names _ _ _
    (sym (members_named c.args.node.now c.in-Members.members _ c.in-Members.is
    (sym (in_slice _ _ c.as_slice.ensures) ∙ sym c.in_ok-is_distinct-in-Members.ensures ∙ c.if-not-branch.false)))
    c.members_distinct.ensures

-- What is behind a count, as the list that it counts, and a node by its kind.
use Rattle.std.proofs.Common.{◌≡◌, ℕ, ℤ, zero, suc, ◌+◌, ◌≤◌, ◌<◌, Bool, true, false, cond, eqb, nat_le, ◌==◌}
use Rattle.std.proofs.Common.{List, [], ◌∷◌, ◌++◌, length, Result, Ok, Err, ◌⊎◌, inl, inr, refl, sym, subst, ◌∙◌, arith}
use Rattle.std.proofs.lemmas.Bool.{eqb-true, le-leb}
use Rattle.std.proofs.lemmas.Bool.Decides.{nat_tests}
use Rattle.doc_model.specs.declared.node.Node.{Node}
use Rattle.doc_model.specs.declared.node.Node.TheVariants as node
use Rattle.byte_formats.specs.declared.error.FieldError.{FieldError}
use Rattle.byte_formats.specs.declared.error.FieldError.TheVariants.{Invalid}
use Rattle.byte_formats.specs.declared.error.DecodeError.{DecodeError}
use Rattle.byte_formats.specs.declared.error.DecodeError.TheVariants as stop
use Rattle.byte_formats.specs.Answers.{Fails}
use Rattle.byte_formats.specs.Format.{◌>>=◌, Read}
use Rattle.docs_format.specs.Reading.{count_at, list_at, collection_at, collections_at, items_at, kind_at}
use Rattle.docs_format.specs.Reading.{last_of, member_at, members_at, node_at, node_of, number_at, text_at}
use Rattle.docs_format.proofs.Fields.{bind_ok, ok_is}

pub collections_are : (bytes : List ℕ) (n : ℕ) (rest : List ℕ) → count_at bytes ≡ Ok (n, rest) → n ≤ 64
    → collections_at bytes ≡ list_at (λ before. collection_at (last_of before)) [] n rest
unfolding collections_at
collections_are bytes n rest e few =
    let small : nat_le n 64 ≡ true = le-leb n 64 few in
    rw (e, small) refl

pub items_are : (value_at : List ℕ → Read Node) (bytes : List ℕ) (n : ℕ) (rest : List ℕ) → count_at bytes ≡ Ok (n, rest)
    → items_at value_at bytes ≡ (list_at (λ before. value_at) [] n rest >>= λ items. Ok (node.Items items.0, items.1))
unfolding items_at
items_are value_at bytes n rest e = rw e refl

pub members_are : (value_at : List ℕ → Read Node) (bytes : List ℕ) (n : ℕ) (rest : List ℕ)
    → count_at bytes ≡ Ok (n, rest)
    → members_at value_at bytes
    ≡ (list_at (member_at value_at) [] n rest >>= λ members. Ok (node.Members members.0, members.1))
unfolding members_at
members_are value_at bytes n rest e = rw e refl

pub stops_then : {X Y : Type 0} (why : DecodeError) (first : Result X FieldError) (f : X → Result Y FieldError)
    → Fails why first → Fails why (first >>= f)
stops_then stop.Memory first f h = tt
stops_then (stop.Bad fault) first f h = rw h refl

pub stops_same : {X : Type 0} (why : DecodeError) (first second : Result X FieldError) → second ≡ first
    → Fails why first → Fails why second
stops_same stop.Memory first second e h = tt
stops_same (stop.Bad fault) first second e h = e ∙ h

pub last_of-push : (names : List (List ℕ)) (name : List ℕ) → last_of (names ++ name ∷ []) ≡ name
last_of-push [] name = refl
last_of-push (first ∷ []) name = refl
last_of-push (first ∷ next ∷ names) name = last_of-push (next ∷ names) name

-- ---- a node by its kind

differs : (a b : ℕ) → b < a → (a == b) ≡ false
differs a b h = grind (arith, nat_tests)

pub kind_stops : (why : DecodeError) (depth : ℕ) (bytes : List ℕ) → Fails why (kind_at bytes)
    → Fails why (node_at depth bytes)
unfolding node_at node_of
kind_stops stop.Memory depth bytes h = tt
kind_stops (stop.Bad fault) zero bytes h = rw h refl
kind_stops (stop.Bad fault) (suc depth) bytes h = rw h refl

module _ (bytes : List ℕ) (k : ℕ) (rest : List ℕ) (e : kind_at bytes ≡ Ok (k, rest)) where
  pub kind_null : (depth : ℕ) → k ≡ 0 → node_at depth bytes ≡ Ok (node.Null, rest)
  unfolding node_at node_of
  kind_null zero is = rw (e, is) refl
  kind_null (suc depth) is = rw (e, is) refl

  pub kind_false : (depth : ℕ) → k ≡ 1 → node_at depth bytes ≡ Ok (node.Bool false, rest)
  unfolding node_at node_of
  kind_false zero is = rw (e, is) refl
  kind_false (suc depth) is = rw (e, is) refl

  pub kind_true : (depth : ℕ) → k ≡ 2 → node_at depth bytes ≡ Ok (node.Bool true, rest)
  unfolding node_at node_of
  kind_true zero is = rw (e, is) refl
  kind_true (suc depth) is = rw (e, is) refl

  pub kind_number : (depth : ℕ) → k ≡ 3
      → node_at depth bytes ≡ (number_at rest >>= λ units. Ok (node.Num units.0, units.1))
  unfolding node_at node_of
  kind_number zero is = rw (e, is) refl
  kind_number (suc depth) is = rw (e, is) refl

  pub kind_text : (depth : ℕ) → k ≡ 4 → node_at depth bytes ≡ (text_at rest >>= λ text. Ok (node.Text text.0, text.1))
  unfolding node_at node_of
  kind_text zero is = rw (e, is) refl
  kind_text (suc depth) is = rw (e, is) refl

  pub kind_items : (depth inner : ℕ) → k ≡ 5 → inner + 1 ≡ depth
      → node_at depth bytes ≡ items_at (node_at inner) rest
  unfolding node_at node_of
  kind_items zero inner is deep = absurd (omega arith)
  kind_items (suc depth) inner is deep = let same : depth ≡ inner = omega arith in rw (e, is, same) refl

  pub kind_members : (depth inner : ℕ) → k ≡ 6 → inner + 1 ≡ depth
      → node_at depth bytes ≡ members_at (node_at inner) rest
  unfolding node_at node_of
  kind_members zero inner is deep = absurd (omega arith)
  kind_members (suc depth) inner is deep = let same : depth ≡ inner = omega arith in rw (e, is, same) refl

  pub kind_deep : (depth : ℕ) → (k ≡ 5) ⊎ (k ≡ 6) → depth ≡ 0 → node_at depth bytes ≡ Err (Invalid (length bytes))
  unfolding node_at node_of
  kind_deep depth (inl is) none = rw (none, e, is) refl
  kind_deep depth (inr is) none = rw (none, e, is) refl

  pub stops_deep : (why : DecodeError) (left depth : ℕ) → (k ≡ 5) ⊎ (k ≡ 6) → left ≡ length bytes
      → (depth ≡ 0) × (why ≡ stop.Bad (Invalid left)) → Fails why (node_at depth bytes)
  stops_deep why left depth kind all d = rw (d.1, all) (kind_deep depth kind d.0)

  pub kind_other : (depth : ℕ) → 7 ≤ k → node_at depth bytes ≡ Err (Invalid (length bytes))
  unfolding node_at node_of
  kind_other depth high =
      let f0 : (k == 0) ≡ false = differs k 0 (omega arith) in
      let f1 : (k == 1) ≡ false = differs k 1 (omega arith) in
      let f2 : (k == 2) ≡ false = differs k 2 (omega arith) in
      let f3 : (k == 3) ≡ false = differs k 3 (omega arith) in
      let f4 : (k == 4) ≡ false = differs k 4 (omega arith) in
      let f5 : (k == 5) ≡ false = differs k 5 (omega arith) in
      let f6 : (k == 6) ≡ false = differs k 6 (omega arith) in
      elim depth as (λ d. node_at d bytes ≡ Err (Invalid (length bytes))) [
        | zero ↦ rw (e, f0, f1, f2, f3, f4, f5, f6) refl
        | suc d ↦ rw (e, f0, f1, f2, f3, f4, f5, f6) refl
      ]

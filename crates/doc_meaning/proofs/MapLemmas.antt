-- Finite maps from texts, and the entries that a `BTreeMap` keeps.
use Rattle.std.proofs.Common.{◌≡◌, ℕ, cond, List, [], ◌∷◌, Option, None, Some, length, arith, refl, sym, ap, ◌∙◌}
use Rattle.std.proofs.lemmas.Cmp.{nat_list_cmp_total, eq_by_cmp_equiv}
use Rattle.std.proofs.lemmas.Map.Lookups.{exact_bytes}
use Rattle.std.specs.BTreeMap.{is_at}
use Rattle.std.specs.Cmp.Lexicographic.{slice_cmp}
use Rattle.std.specs.FinMap.{find, put, entries, entries-insert, len-entries, len-empty, empty, get}
use Rattle.std.specs.FinMap.{insert, remove, from_entries, get-from_entries, get-insert, get-remove, same_map}
use Rattle.std.specs.Map.{lookup, keys_of}
use Rattle.std.specs.List.Sorted.{IsStrictlySortedBy}
use Rattle.std.specs.Ordering.{nat_cmp}

no_length : {A : Type 0} (xs : List A) → length xs ≡ 0 → xs ≡ []
no_length [] h = refl
no_length (x ∷ xs) h = absurd (omega arith)

module _ {X : Type 0} where
  -- what the entries have at a key
  abbrev pub at_key : List (List ℕ × X) → List ℕ → Option X
  at_key es q = lookup (is_at (slice_cmp nat_cmp q)) es

  find_key : (es : List (List ℕ × X)) (q : List ℕ) → find (slice_cmp nat_cmp) q es ≡ at_key es q
  find_key [] q = refl
  find_key (e ∷ es) q = ap (cond (is_at (slice_cmp nat_cmp q) e.0) (Some e.1)) (find_key es q)

  pub get_key : (es : List (List ℕ × X)) (q : List ℕ) → get (from_entries {R = slice_cmp nat_cmp} es) q ≡ at_key es q
  get_key es q = get-from_entries nat_list_cmp_total es q ∙ find_key es q

  -- entries that differ at one key make maps that differ there
  pub one_put : (es fs : List (List ℕ × X)) (k : List ℕ) (v : X) →
      ((q : List ℕ) → at_key fs q ≡ cond (is_at (slice_cmp nat_cmp k) q) (Some v) (at_key es q)) →
      from_entries {R = slice_cmp nat_cmp} fs ≡ insert (from_entries es) k v
  one_put es fs k v h = same_map nat_list_cmp_total exact_bytes _ _ (λ q.
      get_key fs q ∙ h q ∙ ap (λ b. cond b (Some v) (at_key es q)) ((eq_by_cmp_equiv nat_list_cmp_total).symm k q)
      ∙ sym (get-insert nat_list_cmp_total (from_entries es) k v q
      ∙ ap (cond (is_at (slice_cmp nat_cmp q) k) (Some v)) (get_key es q)))

  pub one_removed : (es fs : List (List ℕ × X)) (k : List ℕ) →
      ((q : List ℕ) → at_key fs q ≡ cond (is_at (slice_cmp nat_cmp k) q) None (at_key es q)) →
      from_entries {R = slice_cmp nat_cmp} fs ≡ remove (from_entries es) k
  one_removed es fs k h = same_map nat_list_cmp_total exact_bytes _ _ (λ q.
      get_key fs q ∙ h q ∙ ap (λ b. cond b None (at_key es q)) ((eq_by_cmp_equiv nat_list_cmp_total).symm k q)
      ∙ sym (get-remove nat_list_cmp_total (from_entries es) k q
      ∙ ap (cond (is_at (slice_cmp nat_cmp q) k) None) (get_key es q)))

  no_entries : length (entries (empty {X = X} {R = slice_cmp nat_cmp})) ≡ 0 →
      entries (empty {X = X} {R = slice_cmp nat_cmp}) ≡ []
  no_entries h = no_length _ h

  put_first : (k : List ℕ) (v : X) (es : List (List ℕ × X)) →
      IsStrictlySortedBy (slice_cmp nat_cmp) (k ∷ keys_of es) → put (slice_cmp nat_cmp) k v es ≡ (k, v) ∷ es
  unfolding IsStrictlySortedBy
  put_first k v [] h = refl
  put_first k v (e ∷ es) h = rw h.0.0

  -- entries in order are those of the map that they make
  pub entries-ordered : (es : List (List ℕ × X)) → IsStrictlySortedBy (slice_cmp nat_cmp) (keys_of es) →
      entries (from_entries {R = slice_cmp nat_cmp} es) ≡ es
  unfolding IsStrictlySortedBy
  entries-ordered [] h = no_entries (sym (len-entries empty) ∙ len-empty (slice_cmp nat_cmp) X)
  entries-ordered (e ∷ es) h =
      entries-insert nat_list_cmp_total (from_entries es) e.0 e.1
      ∙ ap (put (slice_cmp nat_cmp) e.0 e.1) (entries-ordered es h.1) ∙ put_first e.0 e.1 es h

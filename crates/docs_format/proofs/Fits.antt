-- What fits the formats keeps the rules of nodes.
use Rattle.std.proofs.Common.{◌≡◌, ℕ, zero, suc, ℤ, ◌+◌, ◌≤◌, ◌<◌, ◌^◌, Bool, true, false, ◌&&◌, ◌||◌, cond, not, nat_lt}
use Rattle.std.proofs.Common.{◌==◌, List, [], ◌∷◌, ◌++◌, map, length, sum_by, Some, None, refl, sym, ap, subst, ◌∙◌}
use Rattle.std.proofs.Common.{arith}
use Rattle.std.specs.Int.{w128, cast_unsigned}
use Rattle.std.specs.List.{list_all}
use Rattle.std.specs.Str.{bytes_eq, is_utf8}
use Rattle.std.proofs.lemmas.Bool.{and_from, and_parts, lt-ltb}
use Rattle.std.proofs.lemmas.List.Sums.{sum_by-cons}
use Rattle.byte_formats.specs.Fields.{listed, tagged, text, wide}
use Rattle.byte_formats.specs.Format.{Format, holds, keeping, made, many}
use Rattle.byte_formats.specs.Leb.{nothing}
use Rattle.doc_model.specs.Tree.{depth, greatest, has_distinct_names, is_among, is_distinct, size}
use Rattle.doc_model.specs.declared.node.Node.{Node}
use Rattle.doc_model.specs.declared.node.Node.TheOpen.{Node-F}
use Rattle.doc_model.specs.declared.node.Node.TheVariants as node
use Rattle.doc_model.specs.declared.node.Node.TheViews.{out-Node, roll-Node, roll-out-Node}
use Rattle.docs_format.specs.NodeFormat.{Layer, are_bits, body, kind, member, name_behind, number, opened, same}
use Rattle.docs_format.specs.NodeFormat as format
use Rattle.docs_format.specs.Reading.{names}
use Rattle.docs_format.specs.Spelling as spell
use Rattle.docs_format.specs.Spelling.{is_decimal}
use Rattle.docs_format.proofs.Distinct.{distinct_fresh, fresh, fresh_distinct}
use Rattle.docs_format.proofs.NodeLaws.{unsigned_fits}
use Rattle.docs_format.proofs.Sizes.{depth_items, depth_members, flat, names_items, names_members, size_items}
use Rattle.docs_format.proofs.Sizes.{size_members, size_text}
use Rattle.docs_format.proofs.Trees.{length-items, length-members, values_bool, values_items, values_members, values_null}
use Rattle.docs_format.proofs.Trees.{values_number, values_text}

-- a node whose texts and numbers are in range, which isn't too deep, and whose objects have no name twice
pub record IsSound (depths : ℕ) (n : Node) : Type 0 where
  pub values : spell.has_values n ≡ true
  pub depth : depth n ≤ depths
  pub names : has_distinct_names n ≡ true

-- and which isn't too large
pub record IsWritten (depths : ℕ) (n : Node) : Type 0 where
  pub sound : IsSound depths n
  pub size : size n < 2 ^ 32

-- ---- numbers

pub number_decimal : (units : ℤ) → number.fits units ≡ true → is_decimal units ≡ true
unfolding number
number_decimal units h = go (is_decimal units) refl
  where
    go : (b : Bool) → is_decimal units ≡ b → b ≡ true
    go true t = refl
    go false t =
        subst
        (λ (b : Bool). holds (keeping are_bits (wide 16)).fits (cond b (Some (cast_unsigned w128 units)) None) ≡ true)
        t h

decimal_number : (units : ℤ) → is_decimal units ≡ true → number.fits units ≡ true
unfolding number
decimal_number units h =
    let f = unsigned_fits units h in
    let bits : ℕ = cast_unsigned w128 units in
    rw h (and_from (nat_lt bits (256 ^ 16)) (are_bits bits) (lt-ltb bits (256 ^ 16) f.0) (ap is_decimal f.1 ∙ h))

-- ---- what fits keeps the rules

module _ (depths : ℕ) (value : Format Node) (each : (n : Node) → value.fits n ≡ true → IsSound depths n) where
  abbrev AreItems : List Node → Type 0
  AreItems xs =
      (list_all spell.has_values xs ≡ true)
      × (greatest (map depth xs) ≤ depths)
      × (list_all has_distinct_names xs ≡ true)

  items_sound : (xs : List Node) → (many (λ b. value) same true (length xs)).fits xs ≡ true → AreItems xs
  unfolding many
  items_sound [] h = (refl, omega arith, refl)
  items_sound (x ∷ xs) h =
      let p = and_parts (value.fits x) ((many (λ b. value) same true (length xs)).fits xs) h in
      let s = each x p.0 in
      let r = items_sound xs p.1 in (
        and_from (spell.has_values x) (list_all spell.has_values xs) s.values r.0,
        omega (arith, s.depth, r.1),
        and_from (has_distinct_names x) (list_all has_distinct_names xs) s.names r.2,
      )

  abbrev AreMembers : List (List ℕ) → List (List ℕ × Node) → Type 0
  AreMembers before ms =
      (fresh before (names ms) ≡ true)
      × (list_all (λ m. is_utf8 m.0 && spell.has_values m.1) ms ≡ true)
      × (greatest (map (λ m. depth m.1) ms) ≤ depths)
      × (list_all (λ m. has_distinct_names m.1) ms ≡ true)

  members_sound : (before : List (List ℕ)) (ms : List (List ℕ × Node))
      → (many (member value) name_behind before (length ms)).fits ms ≡ true → AreMembers before ms
  unfolding many
  members_sound before [] h = (refl, refl, omega arith, refl)
  members_sound before (m ∷ ms) h =
      let p = and_parts ((member value before).fits m)
      ((many (member value) name_behind (name_behind before m) (length ms)).fits ms) h in
      let q = and_parts (text.fits m.0 && not (is_among before m.0)) (value.fits m.1) p.0 in
      let t = and_parts (text.fits m.0) (not (is_among before m.0)) q.0 in
      let u = and_parts (nat_lt (length m.0) (2 ^ 32)) (is_utf8 m.0) t.0 in
      let s = each m.1 q.1 in
      let r = members_sound (name_behind before m) ms p.1 in (
        and_from (not (is_among before m.0)) (fresh (before ++ m.0 ∷ []) (names ms)) t.1 r.0,
        and_from (is_utf8 m.0 && spell.has_values m.1) (list_all (λ m. is_utf8 m.0 && spell.has_values m.1) ms)
            (and_from (is_utf8 m.0) (spell.has_values m.1) u.1 s.values) r.1,
        omega (arith, s.depth, r.2),
        and_from (has_distinct_names m.1) (list_all (λ m. has_distinct_names m.1) ms) s.names r.3,
      )

  array_sound : (xs : List Node) → (listed (λ _. true) (λ b. value) same true).fits xs ≡ true
      → IsSound (suc depths) (node.Items xs)
  array_sound xs h =
      let p = and_parts (nat_lt (length xs) (256 ^ 4) && true)
      ((many (λ b. value) same true (length xs)).fits xs) h in
      let r = items_sound xs p.1 in
      record {
        values = values_items xs ∙ r.0;
        depth = omega (arith, r.1, depth_items xs);
        names = names_items xs ∙ r.2;
      }

  object_sound : (ms : List (List ℕ × Node)) → (listed (λ _. true) (member value) name_behind []).fits ms ≡ true
      → IsSound (suc depths) (node.Members ms)
  object_sound ms h =
      let p = and_parts (nat_lt (length ms) (256 ^ 4) && true)
      ((many (member value) name_behind [] (length ms)).fits ms) h in
      let r = members_sound [] ms p.1 in
      record {
        values = values_members ms ∙ r.1;
        depth = omega (arith, r.2, depth_members ms);
        names =
            names_members ms
            ∙ and_from (is_distinct (names ms)) (list_all (λ m. has_distinct_names m.1) ms)
            (fresh_distinct (names ms) r.0) r.3;
      }

module _ (depths : ℕ) where
  scalar : (n : Node) → (depth n ≡ 0) × (has_distinct_names n ≡ true) → spell.has_values n ≡ true → IsSound depths n
  scalar n f v = record { values = v; depth = omega (arith, f.0); names = f.1 }

  module _ (items : Format (List Node)) (members : Format (List (List ℕ × Node)))
      (I : (xs : List Node) → items.fits xs ≡ true → IsSound depths (node.Items xs))
      (M : (ms : List (List ℕ × Node)) → members.fits ms ≡ true → IsSound depths (node.Members ms)) where
    layer_sound : (l : Layer) → (body items members (kind l)).fits l ≡ true → IsSound depths (roll-Node l)
    layer_sound Node-F.Null h =
        subst (IsSound depths) (sym node.rolls-Null)
        (scalar node.Null (flat node.Null Node-F.Null node.rolls-Null refl refl) values_null)
    layer_sound (Node-F.Bool b) h =
        subst (IsSound depths) (sym (node.rolls-Bool b))
        (scalar (node.Bool b) (flat (node.Bool b) (Node-F.Bool b) (node.rolls-Bool b) refl refl) (values_bool b))
    layer_sound (Node-F.Num u) h =
        subst (IsSound depths) (sym (node.rolls-Num u))
        (scalar (node.Num u) (flat (node.Num u) (Node-F.Num u) (node.rolls-Num u) refl refl)
        (values_number u ∙ number_decimal u h))
    layer_sound (Node-F.Text t) h =
        subst (IsSound depths) (sym (node.rolls-Text t))
        (scalar (node.Text t) (flat (node.Text t) (Node-F.Text t) (node.rolls-Text t) refl refl)
        (values_text t ∙ (and_parts (nat_lt (length t) (2 ^ 32)) (is_utf8 t) h).1))
    layer_sound (Node-F.Items xs) h = subst (IsSound depths) (sym (node.rolls-Items xs)) (I xs h)
    layer_sound (Node-F.Members ms) h = subst (IsSound depths) (sym (node.rolls-Members ms)) (M ms h)

    rolled_sound : (known : ℕ → Bool) (n : Node)
        → (made roll-Node opened (tagged known kind (body items members))).fits n ≡ true → IsSound depths n
    rolled_sound known n h =
        let l : Layer = out-Node n in
        let p = and_parts (nat_lt (kind l) 256 && known (kind l)) ((body items members (kind l)).fits l) h in
        subst (IsSound depths) (roll-out-Node n) (layer_sound l p.1)

pub node_sound : (depths : ℕ) (n : Node) → (format.node depths).fits n ≡ true → IsSound depths n
unfolding format.node
node_sound zero n h = rolled_sound zero nothing nothing (λ xs e. absurd cc) (λ ms e. absurd cc) (λ k. nat_lt k 5) n h
node_sound (suc depths) n h =
    rolled_sound (suc depths) _ _ (array_sound depths (format.node depths) (node_sound depths))
    (object_sound depths (format.node depths) (node_sound depths)) (λ k. nat_lt k 7) n h

-- ---- what keeps the rules fits

module _ (depths : ℕ) (value : Format Node) (each : (n : Node) → IsWritten depths n → value.fits n ≡ true) where
  items_fit : (xs : List Node) → list_all spell.has_values xs ≡ true → greatest (map depth xs) ≤ depths
      → list_all has_distinct_names xs ≡ true → sum_by size xs < 2 ^ 32
      → (many (λ b. value) same true (length xs)).fits xs ≡ true
  unfolding many
  items_fit [] v d q s = refl
  items_fit (x ∷ xs) v d q s =
      let vs = and_parts (spell.has_values x) (list_all spell.has_values xs) v in
      let qs = and_parts (has_distinct_names x) (list_all has_distinct_names xs) q in
      let total : size x + sum_by size xs < 2 ^ 32 = rw sum_by-cons at s in
      and_from (value.fits x) ((many (λ b. value) same true (length xs)).fits xs)
      (each x (record {
        sound = record { values = vs.0; depth = omega (arith, d); names = qs.0 };
        size = omega (arith, total);
      }))
      (items_fit xs vs.1 (omega (arith, d)) qs.1 (omega (arith, total)))

  members_fit : (before : List (List ℕ)) (ms : List (List ℕ × Node)) → fresh before (names ms) ≡ true
      → list_all (λ m. is_utf8 m.0 && spell.has_values m.1) ms ≡ true → greatest (map (λ m. depth m.1) ms) ≤ depths
      → list_all (λ m. has_distinct_names m.1) ms ≡ true → sum_by (λ m. length m.0 + size m.1) ms < 2 ^ 32
      → (many (member value) name_behind before (length ms)).fits ms ≡ true
  unfolding many
  members_fit before [] f v d q s = refl
  members_fit before (m ∷ ms) f v d q s =
      let fs = and_parts (not (is_among before m.0)) (fresh (before ++ m.0 ∷ []) (names ms)) f in
      let vs = and_parts (is_utf8 m.0 && spell.has_values m.1) _ v in
      let us = and_parts (is_utf8 m.0) (spell.has_values m.1) vs.0 in
      let qs = and_parts (has_distinct_names m.1) _ q in
      let total : (length m.0 + size m.1) + sum_by (λ m. length m.0 + size m.1) ms < 2 ^ 32 = rw sum_by-cons at s in
      let name : text.fits m.0 ≡ true =
      and_from (nat_lt (length m.0) (2 ^ 32)) (is_utf8 m.0)
      (lt-ltb (length m.0) (2 ^ 32) (omega (arith, total))) us.0 in
      let here : value.fits m.1 ≡ true =
      each m.1 (record {
        sound = record { values = us.1; depth = omega (arith, d); names = qs.0 };
        size = omega (arith, total);
      }) in
      and_from ((member value before).fits m)
      ((many (member value) name_behind (name_behind before m) (length ms)).fits ms)
      (and_from (text.fits m.0 && not (is_among before m.0)) (value.fits m.1)
      (and_from (text.fits m.0) (not (is_among before m.0)) name fs.0) here)
      (members_fit (name_behind before m) ms fs.1 vs.1 (omega (arith, d)) qs.1 (omega (arith, total)))

  array_fits : (xs : List Node) → IsWritten (suc depths) (node.Items xs)
      → (listed (λ _. true) (λ b. value) same true).fits xs ≡ true
  array_fits xs w =
      let small : 1 + sum_by size xs < 2 ^ 32 = rw size_items at w.size in
      let shallow : 1 + greatest (map depth xs) ≤ suc depths = rw depth_items at w.sound.depth in
      let few : length xs < 256 ^ 4 = omega (arith, small, length-items xs) in
      and_from (nat_lt (length xs) (256 ^ 4) && true) ((many (λ b. value) same true (length xs)).fits xs)
      (and_from (nat_lt (length xs) (256 ^ 4)) true (lt-ltb (length xs) (256 ^ 4) few) refl)
      (items_fit xs (sym (values_items xs) ∙ w.sound.values) (omega (arith, shallow))
      (sym (names_items xs) ∙ w.sound.names) (omega (arith, small)))

  object_fits : (ms : List (List ℕ × Node)) → IsWritten (suc depths) (node.Members ms)
      → (listed (λ _. true) (member value) name_behind []).fits ms ≡ true
  object_fits ms w =
      let small : 1 + sum_by (λ m. length m.0 + size m.1) ms < 2 ^ 32 = rw size_members at w.size in
      let shallow : 1 + greatest (map (λ m. depth m.1) ms) ≤ suc depths = rw depth_members at w.sound.depth in
      let few : length ms < 256 ^ 4 = omega (arith, small, length-members ms) in
      let q =
      and_parts (is_distinct (names ms)) (list_all (λ m. has_distinct_names m.1) ms)
      (sym (names_members ms) ∙ w.sound.names) in
      and_from (nat_lt (length ms) (256 ^ 4) && true) ((many (member value) name_behind [] (length ms)).fits ms)
      (and_from (nat_lt (length ms) (256 ^ 4)) true (lt-ltb (length ms) (256 ^ 4) few) refl)
      (members_fit [] ms (distinct_fresh (names ms) q.0) (sym (values_members ms) ∙ w.sound.values)
      (omega (arith, shallow)) q.1 (omega (arith, small)))

module _ (depths : ℕ) (items : Format (List Node)) (members : Format (List (List ℕ × Node))) (known : ℕ → Bool)
    (y0 : known 0 ≡ true) (y1 : known 1 ≡ true) (y2 : known 2 ≡ true) (y3 : known 3 ≡ true) (y4 : known 4 ≡ true)
    (I : (xs : List Node) → IsWritten depths (node.Items xs) → (known 5 ≡ true) × (items.fits xs ≡ true))
    (M : (ms : List (List ℕ × Node)) → IsWritten depths (node.Members ms)
    → (known 6 ≡ true) × (members.fits ms ≡ true)) where
  layer_fits : (l : Layer) → IsWritten depths (roll-Node l)
      → ((nat_lt (kind l) 256 && known (kind l)) && (body items members (kind l)).fits l) ≡ true
  layer_fits Node-F.Null w = rw y0 refl
  layer_fits (Node-F.Bool true) w = rw y2 refl
  layer_fits (Node-F.Bool false) w = rw y1 refl
  layer_fits (Node-F.Num u) w =
      let v : IsWritten depths (node.Num u) = subst (IsWritten depths) (node.rolls-Num u) w in
      rw y3 (decimal_number u (sym (values_number u) ∙ v.sound.values))
  layer_fits (Node-F.Text t) w =
      let v : IsWritten depths (node.Text t) = subst (IsWritten depths) (node.rolls-Text t) w in
      let short : length t < 2 ^ 32 = omega (arith, v.size, size_text t) in
      rw y4
      (and_from (nat_lt (length t) (2 ^ 32)) (is_utf8 t) (lt-ltb (length t) (2 ^ 32) short)
      (sym (values_text t) ∙ v.sound.values))
  layer_fits (Node-F.Items xs) w =
      let i = I xs (subst (IsWritten depths) (node.rolls-Items xs) w) in
      let is_known : known 5 ≡ true = i.0 in
      rw is_known i.1
  layer_fits (Node-F.Members ms) w =
      let m = M ms (subst (IsWritten depths) (node.rolls-Members ms) w) in
      let is_known : known 6 ≡ true = m.0 in
      rw is_known m.1

  rolled_fits : (n : Node) → IsWritten depths n
      → (made roll-Node opened (tagged known kind (body items members))).fits n ≡ true
  rolled_fits n w = layer_fits (out-Node n) (subst (IsWritten depths) (sym (roll-out-Node n)) w)

pub node_fits : (depths : ℕ) (n : Node) → IsWritten depths n → (format.node depths).fits n ≡ true
unfolding format.node
node_fits zero =
    rolled_fits zero nothing nothing (λ k. nat_lt k 5) refl refl refl refl refl
    (λ xs w. absurd (omega (arith, w.sound.depth, depth_items xs)))
    (λ ms w. absurd (omega (arith, w.sound.depth, depth_members ms)))
node_fits (suc depths) =
    let value : Format Node = format.node depths in
    rolled_fits (suc depths) _ _ (λ k. nat_lt k 7) refl refl refl refl refl
    (λ xs w. (refl, array_fits depths value (node_fits depths) xs w))
    (λ ms w. (refl, object_fits depths value (node_fits depths) ms w))

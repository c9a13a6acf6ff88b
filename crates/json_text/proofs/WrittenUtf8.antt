-- The canonical text of a tree whose texts and names are UTF-8 is UTF-8.
use Rattle.std.proofs.Common.{◌≡◌, ℕ, ℤ, ◌+◌, ◌/◌, ◌%◌, ◌<◌, ◌==◌, Bool, true, false, ◌&&◌, cond, ltb, List, [], ◌∷◌, ◌++◌, map, refl, sym, subst, subst₂, arith}
use Rattle.std.proofs.lemmas.Bool.{and_parts, ltb-true}
use Rattle.std.proofs.lemmas.Str.{IsUtf8-append, IsUtf8-nil, IsUtf8-encode, IsUtf8-from_is_utf8, scalars-chars}
use Rattle.std.specs.Char.{IsScalar, encode_utf8}
use Rattle.std.specs.List.{flat_map, list_all}
use Rattle.std.specs.Str.{IsUtf8, is_utf8, chars, all_scalars}
use Rattle.doc_model.specs.declared.node.Node.{Node, map-Node}
use Rattle.doc_model.specs.declared.node.Node.TheOpen.{Node-F}
use Rattle.doc_model.specs.declared.node.Node.TheFolds.{fold-roll-Node, ind-Node}
use Rattle.doc_model.specs.declared.node.Node.TheViews.{roll-Node}
use Rattle.json_text.specs.Canonical.{coded, escaped, escaped_text, has_values, is_decimal, low_hex, node_step, node_text, quoted, units_text, values_step}
use Rattle.json_text.specs.Faults.{Every}
use Rattle.json_text.specs.Grammar.{false_text, joined, null_text, true_text}
use Rattle.json_text.specs.Laws.{CanonicalTextsAreRead}
use Rattle.json_text.proofs.CanonicalNumbers.{units_is}
use Rattle.json_text.proofs.CanonicalTrees.{written_is}
use Rattle.json_text.proofs.FoundNumbers.{literal_utf8}
use Rattle.json_text.proofs.FoundValues.{bracketed_utf8}
use Rattle.json_text.proofs.Fronts.{cons_utf8, word_utf8}

-- ---- characters

hex_by : (d : ℕ) (t : Bool) → d < 16 → cond t (48 + d) (87 + d) < 128
hex_by d true lt = omega arith
hex_by d false lt = omega arith

hex_small : (d : ℕ) → d < 16 → low_hex d < 128
hex_small d lt = hex_by d (ltb d 10) lt

control_utf8 : (c : ℕ) → c < 32 → IsUtf8 (92 ∷ 117 ∷ 48 ∷ 48 ∷ low_hex (c / 16) ∷ low_hex (c % 16) ∷ [])
control_utf8 c lt =
    let high = low_hex (c / 16) in
    let low = low_hex (c % 16) in
    let digits = cons_utf8 high (low ∷ []) (hex_small (c / 16) (omega arith))
    (cons_utf8 low [] (hex_small (c % 16) (omega arith)) IsUtf8-nil) in
    IsUtf8-append (92 ∷ 117 ∷ 48 ∷ 48 ∷ []) (high ∷ low ∷ []) (word_utf8 (92 ∷ 117 ∷ 48 ∷ 48 ∷ []) refl) digits

coded_by : (c : ℕ) (t : Bool) → ltb c 32 ≡ t → IsScalar c →
    IsUtf8 (cond t (92 ∷ 117 ∷ 48 ∷ 48 ∷ low_hex (c / 16) ∷ low_hex (c % 16) ∷ []) (encode_utf8 c))
coded_by c true e s = control_utf8 c (ltb-true c 32 e)
coded_by c false e s = IsUtf8-encode c s

coded_utf8 : (c : ℕ) → IsScalar c → IsUtf8 (coded c)
coded_utf8 c s = coded_by c (ltb c 32) refl s

either : (t : Bool) (text rest : List ℕ) → IsUtf8 text → IsUtf8 rest → IsUtf8 (cond t text rest)
either true text rest here other = here
either false text rest here other = other

escaped_utf8 : (c : ℕ) → IsScalar c → IsUtf8 (escaped c)
escaped_utf8 c s =
    either (c == 34) (92 ∷ 34 ∷ []) _ (word_utf8 (92 ∷ 34 ∷ []) refl)
    (either (c == 92) (92 ∷ 92 ∷ []) _ (word_utf8 (92 ∷ 92 ∷ []) refl)
    (either (c == 8) (92 ∷ 98 ∷ []) _ (word_utf8 (92 ∷ 98 ∷ []) refl)
    (either (c == 9) (92 ∷ 116 ∷ []) _ (word_utf8 (92 ∷ 116 ∷ []) refl)
    (either (c == 10) (92 ∷ 110 ∷ []) _ (word_utf8 (92 ∷ 110 ∷ []) refl)
    (either (c == 12) (92 ∷ 102 ∷ []) _ (word_utf8 (92 ∷ 102 ∷ []) refl)
    (either (c == 13) (92 ∷ 114 ∷ []) (coded c) (word_utf8 (92 ∷ 114 ∷ []) refl) (coded_utf8 c s)))))))

-- ---- texts and numbers

all_escaped_utf8 : (cs : List ℕ) → all_scalars cs ≡ true → IsUtf8 (flat_map escaped cs)
all_escaped_utf8 [] h = IsUtf8-nil
all_escaped_utf8 (c ∷ cs) h =
    let p = and_parts _ (all_scalars cs) h in
    IsUtf8-append (escaped c) (flat_map escaped cs) (escaped_utf8 c p.0) (all_escaped_utf8 cs p.1)

quoted_utf8 : (text : List ℕ) → IsUtf8 text → IsUtf8 (quoted text)
quoted_utf8 text u =
    bracketed_utf8 34 34 (escaped_text text) (omega arith) (omega arith)
    (all_escaped_utf8 (chars text) (scalars-chars text u))

units_utf8 : (units : ℤ) → is_decimal units ≡ true → IsUtf8 (units_text units)
units_utf8 units h =
    let (l, is, spelled, worth) = units_is units h in subst IsUtf8 (sym spelled) (literal_utf8 l is)

joined_utf8 : (parts : List (List ℕ)) → Every IsUtf8 parts → IsUtf8 (joined parts)
joined_utf8 [] all = IsUtf8-nil
joined_utf8 (part ∷ []) all = all.0
joined_utf8 (part ∷ next ∷ parts) all =
    let rest = joined (next ∷ parts) in
    IsUtf8-append part (44 ∷ rest) all.0 (cons_utf8 44 rest (omega arith) (joined_utf8 (next ∷ parts) all.1))

-- ---- trees

abbrev IsClean : Node → Type 0
IsClean n = has_values n ≡ true → IsUtf8 (node_text n)

abbrev Clean : Type 0
Clean = (n : Node) × IsClean n

abbrev bare : List ℕ × Clean → List ℕ × Node
bare m = (m.0, m.1.0)

abbrev valued : List ℕ × Node → List ℕ × Bool
valued m = (m.0, has_values m.1)

abbrev spelled : List ℕ × Node → List ℕ × List ℕ
spelled m = (m.0, node_text m.1)

items_clean : (ys : List Clean) →
    list_all (λ item. item) (map has_values (map (λ (e : Clean). e.0) ys)) ≡ true →
    Every IsUtf8 (map node_text (map (λ (e : Clean). e.0) ys))
items_clean [] h = tt
items_clean (y ∷ ys) h =
    let p = and_parts (has_values y.0) (list_all (λ item. item) (map has_values (map (λ (e : Clean). e.0) ys))) h in
    (y.1 p.0, items_clean ys p.1)

members_clean : (ms : List (List ℕ × Clean)) →
    list_all (λ (m : List ℕ × Bool). is_utf8 m.0 && m.1) (map valued (map bare ms)) ≡ true →
    Every IsUtf8 (map (λ (m : List ℕ × List ℕ). quoted m.0 ++ 58 ∷ m.1) (map spelled (map bare ms)))
members_clean [] h = tt
members_clean (m ∷ ms) h =
    let p = and_parts (is_utf8 m.0 && has_values m.1.0)
    (list_all (λ (k : List ℕ × Bool). is_utf8 k.0 && k.1) (map valued (map bare ms))) h in
    let q = and_parts (is_utf8 m.0) (has_values m.1.0) p.0 in
    let name = quoted_utf8 m.0 (IsUtf8-from_is_utf8 m.0 q.0) in
    let value = cons_utf8 58 (node_text m.1.0) (omega arith) (m.1.1 q.1) in
    (IsUtf8-append (quoted m.0) (58 ∷ node_text m.1.0) name value, members_clean ms p.1)

step_clean : (y : Node-F Clean) → IsClean (roll-Node (map-Node Clean Node (λ e. e.0) y))
step_clean y =
    let z = map-Node Clean Node (λ (e : Clean). e.0) y in
    subst₂ (λ (b : Bool) (text : List ℕ). b ≡ true → IsUtf8 text) (sym (fold-roll-Node Bool values_step z))
    (sym (fold-roll-Node (List ℕ) node_step z)) (go y)
  where
    go : (y : Node-F Clean) →
        values_step (map-Node Node Bool has_values (map-Node Clean Node (λ e. e.0) y)) ≡ true →
        IsUtf8 (node_step (map-Node Node (List ℕ) node_text (map-Node Clean Node (λ e. e.0) y)))
    go Node-F.Null h = word_utf8 null_text refl
    go (Node-F.Bool true) h = word_utf8 true_text refl
    go (Node-F.Bool false) h = word_utf8 false_text refl
    go (Node-F.Num units) h = units_utf8 units h
    go (Node-F.Text text) h = quoted_utf8 text (IsUtf8-from_is_utf8 text h)
    go (Node-F.Items ys) h =
        let parts = map node_text (map (λ (e : Clean). e.0) ys) in
        bracketed_utf8 91 93 (joined parts) (omega arith) (omega arith) (joined_utf8 parts (items_clean ys h))
    go (Node-F.Members ms) h =
        let parts = map (λ (m : List ℕ × List ℕ). quoted m.0 ++ 58 ∷ m.1) (map spelled (map bare ms)) in
        bracketed_utf8 123 125 (joined parts) (omega arith) (omega arith) (joined_utf8 parts (members_clean ms h))

text_utf8 : (n : Node) → IsClean n
text_utf8 = ind-Node IsClean (λ x y is. subst (λ (z : Node-F Node). IsClean (roll-Node z)) is (step_clean y))

pub canonical_texts_are_read : CanonicalTextsAreRead
canonical_texts_are_read v values nests names = written_is (node_text v) v refl (text_utf8 v values) values nests names

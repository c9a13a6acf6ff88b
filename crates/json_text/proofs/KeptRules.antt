-- A tree has distinct names, nests no deeper than the grammar lets it, and is no larger than its text.
use Rattle.std.proofs.Common.{◌≡◌, ℕ, ℤ, zero, suc, ◌+◌, ◌≤◌, inl, inr, Bool, true, false, cond, List, [], ◌∷◌, ◌++◌, length, map, Some, refl, sym, ap, subst, ◌∙◌, arith}
use Rattle.std.proofs.lemmas.Bool.{and_from}
use Rattle.std.proofs.lemmas.List.{length-append}
use Rattle.std.proofs.lemmas.List.Folds.{fold-map}
use Rattle.std.proofs.lemmas.List.Sums.{sum_by-cons, sum-map}
use Rattle.std.specs.Prelude.{sum_by}
use Rattle.std.specs.List.{list_all}
use Rattle.doc_model.specs.declared.node.Node.{Node, map-Node}
use Rattle.doc_model.specs.declared.node.Node.TheVariants as node
use Rattle.doc_model.specs.declared.node.Node.TheOpen.{Node-F}
use Rattle.doc_model.specs.declared.node.Node.TheFolds.{fold-roll-Node}
use Rattle.doc_model.specs.declared.node.Node.TheViews.{roll-Node}
use Rattle.doc_model.specs.Tree.{depth, depth_step, greatest, has_distinct_names, is_distinct, names_step, size, size_step}
use Rattle.json_text.specs.Numbers.{is_int, fraction_text, exponent_text, IsNumber}
use Rattle.json_text.specs.Strings.{IsString}
use Rattle.json_text.specs.Grammar.{Padded, Each, joined, Listed, IsArray, Member, IsMember, IsObject, last_values, null_text, true_text, false_text, IsScalar, IsValue}
use Rattle.json_text.specs.Laws.{TreesKeepRules}
use Rattle.json_text.proofs.CanonicalTrees.{depth_items, depth_members, names_items, names_members}
use Rattle.json_text.proofs.KeptMembers.{member_names, are_distinct_inside, deepest, weight, total, last_kept}
use Rattle.json_text.proofs.StringSizes.{string_short}

record Keeps (depths : ℕ) (text : List ℕ) (v : Node) : Type 0 where
  names : has_distinct_names v ≡ true
  nests : depth v ≤ depths
  small : size v ≤ length text

abbrev AllKeep : ℕ → Type 0
AllKeep depths = (text : List ℕ) (v : Node) → IsValue depths text v → Keeps depths text v

-- ---- values without items and members

leaf_keeps : (depths : ℕ) (text : List ℕ) (z : Node-F Node) →
    names_step (map-Node Node Bool has_distinct_names z) ≡ true → depth_step (map-Node Node ℕ depth z) ≡ 0 →
    size_step (map-Node Node ℕ size z) ≤ length text → Keeps depths text (roll-Node z)
leaf_keeps depths text z n d s = record {
  names = fold-roll-Node Bool names_step z ∙ n;
  nests = subst (λ (k : ℕ). k ≤ depths) (sym (fold-roll-Node ℕ depth_step z ∙ d)) (omega arith);
  small = subst (λ (k : ℕ). k ≤ length text) (sym (fold-roll-Node ℕ size_step z)) s;
}

null_keeps : (depths : ℕ) (text : List ℕ) → 1 ≤ length text → Keeps depths text node.Null
null_keeps depths text some =
    subst (λ (v : Node). Keeps depths text v) node.rolls-Null (leaf_keeps depths text Node-F.Null refl refl some)

bool_keeps : (depths : ℕ) (text : List ℕ) (b : Bool) → 1 ≤ length text → Keeps depths text (node.Bool b)
bool_keeps depths text b some =
    subst (λ (v : Node). Keeps depths text v) (node.rolls-Bool b)
    (leaf_keeps depths text (Node-F.Bool b) refl refl some)

number_keeps : (depths : ℕ) (text : List ℕ) (n : ℤ) → 1 ≤ length text → Keeps depths text (node.Num n)
number_keeps depths text n some =
    subst (λ (v : Node). Keeps depths text v) (node.rolls-Num n) (leaf_keeps depths text (Node-F.Num n) refl refl some)

string_keeps : (depths : ℕ) (text s : List ℕ) → 1 + length s ≤ length text → Keeps depths text (node.Text s)
string_keeps depths text s small =
    subst (λ (v : Node). Keeps depths text v) (node.rolls-Text s)
    (leaf_keeps depths text (Node-F.Text s) refl refl small)

int_some : (whole : List ℕ) → is_int whole ≡ true → 1 ≤ length whole
int_some [] h = absurd cc
int_some (b ∷ bs) h = omega arith

number_some : (text : List ℕ) (n : ℤ) → IsNumber text (Some n) → 1 ≤ length text
number_some text n (l, is, spelled, worth) =
    let minus : List ℕ = cond l.minus (45 ∷ []) [] in
    let fraction = fraction_text l.fraction in
    let exponent = exponent_text l.letter l.sign l.exponent in
    let len : length text ≡ length (minus ++ l.whole ++ fraction ++ exponent) = ap (λ (x : List ℕ). length x) spelled in
    omega (
      arith,
      length-append (minus ++ l.whole ++ fraction) exponent,
      length-append (minus ++ l.whole) fraction,
      length-append minus l.whole,
      int_some l.whole is.whole,
    )

word_some : (text word : List ℕ) → text ≡ word → 1 ≤ length word → 1 ≤ length text
word_some text word is some = subst (λ (x : List ℕ). 1 ≤ length x) (sym is) some

scalar_keeps : (depths : ℕ) (text : List ℕ) (v : Node) → IsScalar text v → Keeps depths text v
scalar_keeps depths text v (inl (t, is)) =
    subst (λ (w : Node). Keeps depths text w) (sym is)
    (null_keeps depths text (word_some text null_text t (omega arith)))
scalar_keeps depths text v (inr (inl (t, is))) =
    subst (λ (w : Node). Keeps depths text w) (sym is)
    (bool_keeps depths text true (word_some text true_text t (omega arith)))
scalar_keeps depths text v (inr (inr (inl (t, is)))) =
    subst (λ (w : Node). Keeps depths text w) (sym is)
    (bool_keeps depths text false (word_some text false_text t (omega arith)))
scalar_keeps depths text v (inr (inr (inr (inl (n, t, is))))) =
    subst (λ (w : Node). Keeps depths text w) (sym is) (number_keeps depths text n (number_some text n t))
scalar_keeps depths text v (inr (inr (inr (inr (s, t, is))))) =
    let longer : length s + 2 ≤ length text = string_short text s t in
    subst (λ (w : Node). Keeps depths text w) (sym is) (string_keeps depths text s (omega arith))

-- ---- parts

padded_long : (IsText : List ℕ → Type 0) (part : List ℕ) (p : Padded IsText part) → length p.text ≤ length part
padded_long IsText part p =
    let len : length part ≡ length (p.before ++ p.text ++ p.behind) = ap (λ (x : List ℕ). length x) p.spelled in
    omega (arith, length-append (p.before ++ p.text) p.behind, length-append p.before p.text)

padded_keeps : (depths : ℕ) → AllKeep depths → (part : List ℕ) (v : Node) →
    Padded (λ text. IsValue depths text v) part → Keeps depths part v
padded_keeps depths all part v p =
    let k = all p.text v p.is_text in
    let longer : length p.text ≤ length part = padded_long (λ text. IsValue depths text v) part p in
    record { names = k.names; nests = k.nests; small = omega (arith, k.small) }

joined_long : (parts : List (List ℕ)) → sum_by (λ x. length x) parts ≤ length (joined parts)
joined_long [] = omega arith
joined_long (part ∷ []) = omega (arith, sum_by-cons (λ (x : List ℕ). length x) part [])
joined_long (part ∷ next ∷ parts) = omega (
  arith,
  sum_by-cons (λ (x : List ℕ). length x) part (next ∷ parts),
  length-append part (44 ∷ joined (next ∷ parts)),
  joined_long (next ∷ parts),
)

between : (opening closing : ℕ) (text inner : List ℕ) → text ≡ opening ∷ (inner ++ closing ∷ []) →
    length text ≡ length inner + 2
between opening closing text inner is =
    let len : length text ≡ length (opening ∷ (inner ++ closing ∷ [])) = ap (λ (x : List ℕ). length x) is in
    omega (arith, length-append inner (closing ∷ []))

-- ---- arrays

abbrev IsItem : ℕ → List ℕ → Node → Type 0
IsItem depths part item = Padded (λ text. IsValue depths text item) part

record ItemsKeep (depths n : ℕ) (items : List Node) : Type 0 where
  names : list_all has_distinct_names items ≡ true
  nests : greatest (map depth items) ≤ depths
  small : sum_by size items ≤ n

each_item : (depths : ℕ) → AllKeep depths → (parts : List (List ℕ)) (items : List Node) →
    Each (IsItem depths) parts items → ItemsKeep depths (sum_by (λ x. length x) parts) items
each_item depths all [] [] each = record { names = refl; nests = omega arith; small = omega arith }
each_item depths all [] (v ∷ vs) each = absurd each
each_item depths all (part ∷ parts) [] each = absurd each
each_item depths all (part ∷ parts) (v ∷ vs) each =
    let k = padded_keeps depths all part v each.0 in
    let r = each_item depths all parts vs each.1 in
    record {
      names = and_from (has_distinct_names v) (list_all has_distinct_names vs) k.names r.names;
      nests = omega (arith, k.nests, r.nests);
      small = omega (
        arith,
        sum_by-cons size v vs,
        sum_by-cons (λ (x : List ℕ). length x) part parts,
        k.small,
        r.small,
      );
    }

items_keep : (depths : ℕ) → AllKeep depths → (inner : List ℕ) (items : List Node) →
    Listed (IsItem depths) inner items → ItemsKeep depths (length inner) items
items_keep depths all inner [] listed = record { names = refl; nests = omega arith; small = omega arith }
items_keep depths all inner (v ∷ vs) (parts, each, is) =
    let k = each_item depths all parts (v ∷ vs) each in
    let len : length inner ≡ length (joined parts) = ap (λ (x : List ℕ). length x) is in
    record { names = k.names; nests = k.nests; small = omega (arith, k.small, joined_long parts) }

size_items : (items : List Node) → size (node.Items items) ≡ 1 + sum_by size items
size_items items = ap size (sym (node.rolls-Items items)) ∙ fold-roll-Node ℕ size_step (Node-F.Items items)
    ∙ ap (λ (n : ℕ). 1 + n) (sum-map size items)

array_keeps : (depths : ℕ) → AllKeep depths → (text : List ℕ) (items : List Node) → IsArray (IsValue depths) text items →
    Keeps (suc depths) text (node.Items items)
array_keeps depths all text items (inner, listed, is) =
    let k = items_keep depths all inner items listed in
    let len = between 91 93 text inner is in
    record {
      names = names_items items ∙ k.names;
      nests = subst (λ (n : ℕ). n ≤ suc depths) (sym (depth_items items)) (omega (arith, k.nests));
      small = subst (λ (n : ℕ). n ≤ length text) (sym (size_items items)) (omega (arith, k.small));
    }

-- ---- objects

record MembersKeep (depths n : ℕ) (members : List Member) : Type 0 where
  names : are_distinct_inside members ≡ true
  nests : deepest members ≤ depths
  small : total members ≤ n

member_long : (depths : ℕ) → AllKeep depths → (part : List ℕ) (m : Member) → IsMember (IsValue depths) part m →
    weight m ≤ length part
member_long depths all part m (name, value, named, is_value, is) =
    let k = padded_keeps depths all value m.1 is_value in
    let len : length part ≡ length (name ++ 58 ∷ value) = ap (λ (x : List ℕ). length x) is in
    omega (
      arith,
      length-append name (58 ∷ value),
      string_short named.text m.0 named.is_text,
      padded_long (λ text. IsString text (Some m.0)) name named,
      k.small,
    )

each_member : (depths : ℕ) → AllKeep depths → (parts : List (List ℕ)) (members : List Member) →
    Each (IsMember (IsValue depths)) parts members → MembersKeep depths (sum_by (λ x. length x) parts) members
each_member depths all [] [] each = record { names = refl; nests = omega arith; small = omega arith }
each_member depths all [] (m ∷ ms) each = absurd each
each_member depths all (part ∷ parts) [] each = absurd each
each_member depths all (part ∷ parts) (m ∷ ms) each =
    let value = each.0.1 in
    let k = padded_keeps depths all value m.1 each.0.3 in
    let r = each_member depths all parts ms each.1 in
    record {
      names = and_from (has_distinct_names m.1) (are_distinct_inside ms) k.names r.names;
      nests = omega (arith, k.nests, r.nests);
      small = omega (
        arith,
        sum_by-cons weight m ms,
        sum_by-cons (λ (x : List ℕ). length x) part parts,
        member_long depths all part m each.0,
        r.small,
      );
    }

members_keep : (depths : ℕ) → AllKeep depths → (inner : List ℕ) (members : List Member) →
    Listed (IsMember (IsValue depths)) inner members → MembersKeep depths (length inner) members
members_keep depths all inner [] listed = record { names = refl; nests = omega arith; small = omega arith }
members_keep depths all inner (m ∷ ms) (parts, each, is) =
    let k = each_member depths all parts (m ∷ ms) each in
    let len : length inner ≡ length (joined parts) = ap (λ (x : List ℕ). length x) is in
    record { names = k.names; nests = k.nests; small = omega (arith, k.small, joined_long parts) }

abbrev sized : Member → List ℕ × ℕ
sized m = (m.0, size m.1)

size_members : (members : List Member) → size (node.Members members) ≡ 1 + total members
size_members members =
    ap size (sym (node.rolls-Members members)) ∙ fold-roll-Node ℕ size_step (Node-F.Members members)
    ∙ ap (λ (n : ℕ). 1 + n) (fold-map (λ (a : ℕ) (m : List ℕ × ℕ). a + (length m.0 + m.1)) sized 0 members)

object_keeps : (depths : ℕ) → AllKeep depths → (text : List ℕ) (members : List Member) →
    IsObject (IsValue depths) text members → Keeps (suc depths) text (node.Members (last_values members))
object_keeps depths all text members (inner, listed, is) =
    let list = last_values members in
    let k = members_keep depths all inner members listed in
    let last = last_kept depths members k.names k.nests in
    let len = between 123 125 text inner is in
    record {
      names = names_members list ∙ and_from (is_distinct (member_names list)) (are_distinct_inside list) last.distinct
          last.inside;
      nests = subst (λ (n : ℕ). n ≤ suc depths) (sym (depth_members list)) (omega (arith, last.deep));
      small = subst (λ (n : ℕ). n ≤ length text) (sym (size_members list)) (omega (arith, last.small, k.small));
    }

-- ---- whole texts

value_keeps : (depths : ℕ) → AllKeep depths
unfolding IsValue
value_keeps zero text v is = scalar_keeps zero text v is
value_keeps (suc depths) text v (inl is) = scalar_keeps (suc depths) text v is
value_keeps (suc depths) text v (inr (inl (items, array, is))) =
    subst (λ (w : Node). Keeps (suc depths) text w) (sym is)
    (array_keeps depths (value_keeps depths) text items array)
value_keeps (suc depths) text v (inr (inr (members, object, is))) =
    subst (λ (w : Node). Keeps (suc depths) text w) (sym is)
    (object_keeps depths (value_keeps depths) text members object)

pub trees_keep_rules : TreesKeepRules
trees_keep_rules bytes v is =
    let k = padded_keeps 128 (value_keeps 128) bytes v is.1 in
    record { names = k.names; nests = k.nests; small = k.small }

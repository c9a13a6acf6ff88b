-- The canonical text of a tree is a text of that tree.
use Rattle.std.proofs.Common.{◌≡◌, ℕ, ℤ, zero, suc, ◌+◌, ◌≤◌, inl, inr, Bool, true, false, ◌&&◌, ◌||◌, not, cond, List, [], ◌∷◌, ◌++◌, length, map, fold, Option, Some, None, refl, sym, ap, subst, ◌∙◌, append_assoc, arith}
use Rattle.std.proofs.lemmas.List.{append-nil}
use Rattle.std.proofs.lemmas.List.Folds.{list_all-map}
use Rattle.std.proofs.lemmas.Str.{IsUtf8-from_is_utf8}
use Rattle.std.specs.Prelude.{IsTrue}
use Rattle.std.specs.List.{list_all, list_any}
use Rattle.std.specs.Str.{IsUtf8, is_utf8, bytes_eq}
use Rattle.doc_model.specs.declared.node.Node.{Node}
use Rattle.doc_model.specs.declared.node.Node.TheVariants as node
use Rattle.doc_model.specs.declared.node.Node.TheOpen.{Node-F}
use Rattle.doc_model.specs.declared.node.Node.TheFolds.{fold-roll-Node, ind-Node}
use Rattle.doc_model.specs.declared.node.Node.TheViews.{roll-Node}
use Rattle.doc_model.specs.Tree.{depth, depth_step, greatest, has_distinct_names, names_step, is_distinct, is_among}
use Rattle.json_text.specs.Strings.{IsString}
use Rattle.json_text.specs.Grammar.{Padded, Each, joined, Listed, Member, IsMember, put, last_values, IsScalar, IsValue, IsJson}
use Rattle.json_text.specs.Canonical.{node_step, node_text, member_text, quoted, units_text, is_decimal, values_step, has_values}
use Rattle.json_text.specs.Places.{place_of}
use Rattle.json_text.proofs.Spots.{put_new, place_behind, or_at}
use Rattle.json_text.proofs.Written.{members_text}
use Rattle.json_text.proofs.CanonicalNumbers.{units_is}
use Rattle.json_text.proofs.CanonicalTexts.{quoted_is}

and_true : (a b : Bool) → (a && b) ≡ true → (a ≡ true) × (b ≡ true)
and_true true b e = (refl, e)
and_true false b e = absurd cc

map-map : {A B C : Type 0} (f : B → C) (g : A → B) (xs : List A) → map f (map g xs) ≡ map (λ x. f (g x)) xs
map-map f g [] = refl
map-map f g (x ∷ xs) = ap (λ rest. f (g x) ∷ rest) (map-map f g xs)

-- ---- what holds of a node, from what stands in it

pub values_items : (list : List Node) → has_values (node.Items list) ≡ list_all has_values list
values_items list = ap has_values (sym (node.rolls-Items list)) ∙ fold-roll-Node Bool values_step
    (Node-F.Items list) ∙ list_all-map (λ item. item) has_values list

abbrev valued : Member → List ℕ × Bool
valued m = (m.0, has_values m.1)

pub values_members : (list : List Member) → has_values (node.Members list) ≡ list_all (λ m. is_utf8 m.0 && has_values m.1) list
values_members list = ap has_values (sym (node.rolls-Members list)) ∙ fold-roll-Node Bool values_step
    (Node-F.Members list) ∙ list_all-map (λ (m : List ℕ × Bool). is_utf8 m.0 && m.1) valued list

values_number : (units : ℤ) → has_values (node.Num units) ≡ is_decimal units
values_number units = ap has_values (sym (node.rolls-Num units)) ∙ fold-roll-Node Bool values_step (Node-F.Num units)

values_text : (text : List ℕ) → has_values (node.Text text) ≡ is_utf8 text
values_text text = ap has_values (sym (node.rolls-Text text)) ∙ fold-roll-Node Bool values_step (Node-F.Text text)

pub depth_items : (list : List Node) → depth (node.Items list) ≡ 1 + greatest (map depth list)
depth_items list = ap depth (sym (node.rolls-Items list)) ∙ fold-roll-Node ℕ depth_step (Node-F.Items list)

pub depth_members : (list : List Member) → depth (node.Members list) ≡ 1 + greatest (map (λ m. depth m.1) list)
depth_members list = ap depth (sym (node.rolls-Members list)) ∙ fold-roll-Node ℕ depth_step (Node-F.Members list)
    ∙ ap (λ ds. 1 + greatest ds) (map-map (λ (m : List ℕ × ℕ). m.1) (λ (m : Member). (m.0, depth m.1)) list)

pub names_items : (list : List Node) → has_distinct_names (node.Items list) ≡ list_all has_distinct_names list
names_items list = ap has_distinct_names (sym (node.rolls-Items list)) ∙ fold-roll-Node Bool names_step
    (Node-F.Items list) ∙ list_all-map (λ item. item) has_distinct_names list

names : List Member → List (List ℕ)
names list = map (λ m. m.0) list

pub names_members : (list : List Member) →
    has_distinct_names (node.Members list) ≡ (is_distinct (map (λ m. m.0) list) && list_all (λ m. has_distinct_names m.1) list)
names_members list = ap has_distinct_names (sym (node.rolls-Members list)) ∙ fold-roll-Node Bool names_step (Node-F.Members list)
    ∙ ap (λ ns. is_distinct ns && list_all (λ (m : List ℕ × Bool). m.1)
    (map (λ (m : Member). (m.0, has_distinct_names m.1)) list))
    (map-map (λ (m : List ℕ × Bool). m.0) (λ (m : Member). (m.0, has_distinct_names m.1)) list)
    ∙ ap (λ b. is_distinct (map (λ (m : Member). m.0) list) && b)
    (list_all-map (λ (m : List ℕ × Bool). m.1) (λ (m : Member). (m.0, has_distinct_names m.1)) list)

-- ---- the last values of distinct names are all

AllFresh : List Member → List Member → Type 0
AllFresh before [] = Unit {0}
AllFresh before (m ∷ ms) = (place_of before m.0 ≡ None) × AllFresh before ms

none_first : (list : List Member) → AllFresh [] list
unfolding AllFresh
none_first [] = tt
none_first (m ∷ ms) = (refl, none_first ms)

neither : (a b : Bool) → (a || b) ≡ false → (a ≡ false) × (b ≡ false)
neither false false e = (refl, refl)
neither false true e = absurd cc
neither true b e = absurd cc

fresh_more : (before : List Member) (m : Member) (ms : List Member) → is_among (map (λ k. k.0) ms) m.0 ≡ false →
    AllFresh before ms →
    AllFresh (before ++ m ∷ []) ms
unfolding AllFresh
fresh_more before m [] e f = tt
fresh_more before m (k ∷ ms) e f =
    let p = neither (bytes_eq m.0 k.0) (list_any (bytes_eq m.0) (map (λ j. j.0) ms)) e in (
      place_behind before m k.0 ∙ ap (λ (o : Option ℕ). or_at o (cond (bytes_eq m.0 k.0) (Some (length before)) None))
          f.0 ∙ ap (λ (b : Bool). or_at None (cond b (Some (length before)) None)) p.0,
      fresh_more before m ms p.1 f.1,
    )

not_true : (b : Bool) → not b ≡ true → b ≡ false
not_true false e = refl
not_true true e = absurd cc

all_kept : (list before : List Member) → AllFresh before list → is_distinct (map (λ m. m.0) list) ≡ true →
    fold put before list ≡ before ++ list
unfolding AllFresh
all_kept [] before f d = sym (append-nil before)
all_kept (m ∷ ms) before f d =
    let p = and_true (not (is_among (map (λ k. k.0) ms) m.0)) (is_distinct (map (λ k. k.0) ms)) d in
    ap (λ (ks : List Member). fold put ks ms) (put_new before m f.0)
    ∙ all_kept ms (before ++ m ∷ []) (fresh_more before m ms (not_true (is_among (map (λ k. k.0) ms) m.0) p.0) f.1) p.1
    ∙ append_assoc before (m ∷ []) ms

last_are_all : (list : List Member) → is_distinct (map (λ m. m.0) list) ≡ true → last_values list ≡ list
last_are_all list d = all_kept list [] (none_first list) d

-- ---- a node that may be written

pub record Writable (depths : ℕ) (n : Node) : Type 0 where
  pub depth : depth n ≤ depths
  pub values : has_values n ≡ true
  pub names : has_distinct_names n ≡ true

IsWritten : ℕ → Node → Type 0
IsWritten depths n = Writable depths n → IsValue depths (node_text n) n

scalar_value : (depths : ℕ) (text : List ℕ) (v : Node) → IsScalar text v → IsValue depths text v
unfolding IsValue
scalar_value zero text v is = is
scalar_value (suc depths) text v is = inl is

null_written : (depths : ℕ) → IsWritten depths node.Null
unfolding IsWritten
null_written depths w = scalar_value depths (node_text node.Null) node.Null
    (inl (ap node_text (sym node.rolls-Null) ∙ fold-roll-Node (List ℕ) node_step Node-F.Null, refl))

bool_text : (b : Bool) → node_text (node.Bool b) ≡ node_step (Node-F.Bool b)
bool_text b = ap node_text (sym (node.rolls-Bool b)) ∙ fold-roll-Node (List ℕ) node_step (Node-F.Bool b)

bool_written : (depths : ℕ) (b : Bool) → IsWritten depths (node.Bool b)
unfolding IsWritten
bool_written depths true w = scalar_value depths (node_text (node.Bool true)) (node.Bool true) (inr (inl (bool_text true, refl)))
bool_written depths false w =
    scalar_value depths (node_text (node.Bool false)) (node.Bool false) (inr (inr (inl (bool_text false, refl))))

num_written : (depths : ℕ) (units : ℤ) → IsWritten depths (node.Num units)
unfolding IsWritten
num_written depths units w =
    let t : node_text (node.Num units) ≡ units_text units =
    ap node_text (sym (node.rolls-Num units)) ∙ fold-roll-Node (List ℕ) node_step (Node-F.Num units) in
    let (l, ok, spelled, worth) = units_is units (sym (values_number units) ∙ w.values) in
    scalar_value depths (node_text (node.Num units)) (node.Num units)
    (inr (inr (inr (inl (units, (l, ok, t ∙ spelled, worth), refl)))))

string_written : (depths : ℕ) (text : List ℕ) → IsWritten depths (node.Text text)
unfolding IsWritten
string_written depths text w =
    let t : node_text (node.Text text) ≡ quoted text =
    ap node_text (sym (node.rolls-Text text)) ∙ fold-roll-Node (List ℕ) node_step (Node-F.Text text) in
    let (chars, are, spelled, worth) = quoted_is text (IsUtf8-from_is_utf8 text (sym (values_text text) ∙ w.values)) in
    scalar_value depths (node_text (node.Text text)) (node.Text text)
    (inr (inr (inr (inr (text, (chars, are, t ∙ spelled, worth), refl)))))

-- ---- arrays and objects

bare : (IsText : List ℕ → Type 0) (text : List ℕ) → IsText text → Padded IsText text
bare IsText text is = record {
  before = [];
  text = text;
  behind = [];
  white_before = refl;
  white_behind = refl;
  is_text = is;
  spelled = sym (append-nil text);
}

abbrev IsItem : ℕ → List ℕ → Node → Type 0
IsItem depths part item = Padded (λ text. IsValue depths text item) part

each_item : (depths : ℕ) → ((n : Node) → IsWritten depths n) → (list : List Node) → greatest (map depth list) ≤ depths →
    list_all has_values list ≡ true → list_all has_distinct_names list ≡ true → Each (IsItem depths) (map node_text list) list
unfolding IsWritten
each_item depths all [] d v n = tt
each_item depths all (x ∷ xs) d v n =
    let vs = and_true (has_values x) (list_all has_values xs) v in
    let ns = and_true (has_distinct_names x) (list_all has_distinct_names xs) n in (
      bare (λ text. IsValue depths text x) (node_text x)
          (all x (record { depth = omega arith; values = vs.0; names = ns.0 })),
      each_item depths all xs (omega arith)
          vs.1 ns.1,
    )

items_listed : (depths : ℕ) (list : List Node) → Each (IsItem depths) (map node_text list) list →
    Listed (IsItem depths) (joined (map node_text list)) list
items_listed depths [] each = refl
items_listed depths (x ∷ xs) each = (map node_text (x ∷ xs), each, refl)

pub items_text : (list : List Node) → node_text (node.Items list) ≡ 91 ∷ (joined (map node_text list) ++ 93 ∷ [])
items_text list = ap node_text (sym (node.rolls-Items list)) ∙ fold-roll-Node (List ℕ) node_step (Node-F.Items list)

array_written : (depths : ℕ) → ((n : Node) → IsWritten depths n) → (list : List Node) → IsWritten (suc depths) (node.Items list)
unfolding IsWritten IsValue
array_written depths all list w =
    let d : 1 + greatest (map depth list) ≤ suc depths = subst (λ (k : ℕ). k ≤ suc depths) (depth_items list) w.depth in
    let each = each_item depths all list (omega arith) (sym (values_items list) ∙ w.values) (sym (names_items list) ∙ w.names) in
    inr (inl (list, (joined (map node_text list), items_listed depths list each, items_text list), refl))

each_member : (depths : ℕ) → ((n : Node) → IsWritten depths n) → (list : List Member) →
    greatest (map (λ m. depth m.1) list) ≤ depths →
    list_all (λ m. is_utf8 m.0 && has_values m.1) list ≡ true → list_all (λ m. has_distinct_names m.1) list ≡ true →
    Each (IsMember (IsValue depths)) (map member_text list) list
unfolding IsWritten
each_member depths all [] d v n = tt
each_member depths all (m ∷ ms) d v n =
    let vs = and_true (is_utf8 m.0 && has_values m.1) (list_all (λ k. is_utf8 k.0 && has_values k.1) ms) v in
    let one = and_true (is_utf8 m.0) (has_values m.1) vs.0 in
    let ns = and_true (has_distinct_names m.1) (list_all (λ k. has_distinct_names k.1) ms) n in
    let name = bare (λ text. IsString text (Some m.0)) (quoted m.0) (quoted_is m.0 (IsUtf8-from_is_utf8 m.0 one.0)) in
    let value = bare (λ text. IsValue depths text m.1) (node_text m.1)
    (all m.1 (record { depth = omega arith; values = one.1; names = ns.0 })) in
    ((quoted m.0, node_text m.1, name, value, refl), each_member depths all ms (omega arith) vs.1 ns.1)

members_listed : (depths : ℕ) (list : List Member) → Each (IsMember (IsValue depths)) (map member_text list) list →
    Listed (IsMember (IsValue depths)) (joined (map member_text list)) list
members_listed depths [] each = refl
members_listed depths (m ∷ ms) each = (map member_text (m ∷ ms), each, refl)

object_written : (depths : ℕ) → ((n : Node) → IsWritten depths n) → (list : List Member) →
    IsWritten (suc depths) (node.Members list)
unfolding IsWritten IsValue
object_written depths all list w =
    let d : 1 + greatest (map (λ m. depth m.1) list) ≤ suc depths =
    subst (λ (k : ℕ). k ≤ suc depths) (depth_members list) w.depth in
    let q = and_true (is_distinct (map (λ m. m.0) list)) (list_all (λ m. has_distinct_names m.1) list)
    (sym (names_members list) ∙ w.names) in
    let each = each_member depths all list (omega arith) (sym (values_members list) ∙ w.values) q.1 in
    inr (inr (
      list,
      (joined (map member_text list), members_listed depths list each, members_text list),
      ap (λ (ms : List Member). node.Members ms) (sym (last_are_all list q.0)),
    ))

-- ---- whole trees

abbrev Opened : Node → Type 0
Opened n = (z : Node-F Node) × (roll-Node z ≡ n)

opened : (n : Node) → Opened n
opened = ind-Node Opened (λ x y is. (x, refl))

rolled_written : (depths : ℕ) (n : Node) → Opened n → ((m : Node) → (list : List Node) → m ≡ node.Items list →
    IsWritten depths m) →
    ((m : Node) → (list : List Member) → m ≡ node.Members list → IsWritten depths m) → IsWritten depths n
rolled_written depths n (Node-F.Null, is) a o = subst (IsWritten depths) (sym node.rolls-Null ∙ is) (null_written depths)
rolled_written depths n (Node-F.Bool b, is) a o = subst (IsWritten depths) (sym (node.rolls-Bool b) ∙ is) (bool_written depths b)
rolled_written depths n (Node-F.Num units, is) a o =
    subst (IsWritten depths) (sym (node.rolls-Num units) ∙ is) (num_written depths units)
rolled_written depths n (Node-F.Text t, is) a o =
    subst (IsWritten depths) (sym (node.rolls-Text t) ∙ is) (string_written depths t)
rolled_written depths n (Node-F.Items list, is) a o = a n list (sym is ∙ node.rolls-Items list)
rolled_written depths n (Node-F.Members list, is) a o = o n list (sym is ∙ node.rolls-Members list)

node_written : (depths : ℕ) (n : Node) → IsWritten depths n
unfolding IsWritten
node_written zero n = rolled_written zero n (opened n)
    (λ m list is w. absurd (omega (arith, w.depth, ap depth is, depth_items list)))
    (λ m list is w. absurd (omega (arith, w.depth, ap depth is, depth_members list)))
node_written (suc depths) n = rolled_written (suc depths) n (opened n)
    (λ m list is. subst (IsWritten (suc depths)) (sym is) (array_written depths (node_written depths) list))
    (λ m list is. subst (IsWritten (suc depths)) (sym is) (object_written depths (node_written depths) list))

text_by : (depths : ℕ) (text : List ℕ) (n : Node) → text ≡ node_text n → Writable depths n → Padded (λ t. IsValue depths t n) text
unfolding IsWritten
text_by depths text n e w = subst (λ (t : List ℕ). Padded (λ u. IsValue depths u n) t) (sym e)
    (bare (λ u. IsValue depths u n) (node_text n) (node_written depths n w))

-- what is written of a tree is a text of that tree
pub written_is : (text : List ℕ) (n : Node) → text ≡ node_text n → IsUtf8 text → has_values n ≡ true → depth n ≤ 128 →
    IsTrue (has_distinct_names n) →
    IsJson text n
written_is text n e u v d names = (u, text_by 128 text n e (record { depth = d; values = v; names = names }))

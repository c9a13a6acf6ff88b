-- The formats of numbers and nodes are lawful.
use Rattle.std.proofs.Common.{◌≡◌, ℕ, zero, suc, ℤ, pos, negsuc, ◌-◌, ◌^◌, ◌<◌, Bool, true, false, not, cond}
use Rattle.std.proofs.Common.{ltb, nat_lt, ◌==◌, List, [], Some, None, refl, sym, ap, ◌∙◌, arith}
use Rattle.std.specs.Int.{w128, cast_signed, cast_unsigned}
use Rattle.std.proofs.lemmas.Bool.{and_parts, eqb-true, ltb-true}
use Rattle.std.proofs.lemmas.Int.{of_z-to_z, to_z-of_z}
use Rattle.byte_formats.specs.Fields.{listed, text, wide}
use Rattle.byte_formats.specs.Format.{Format, holds, keeping, made}
use Rattle.byte_formats.specs.Lawful.{Lawful}
use Rattle.byte_formats.specs.Leb.{nothing}
use Rattle.byte_formats.proofs.Basic.{tagged_lawful, text_lawful, wide_lawful}
use Rattle.byte_formats.proofs.Lists.{listed_lawful}
use Rattle.byte_formats.proofs.Numbers.{nothing_lawful}
use Rattle.byte_formats.proofs.Pairs.{both_lawful}
use Rattle.byte_formats.proofs.Pieces.{constant_lawful, keeping_lawful, made_lawful}
use Rattle.byte_formats.proofs.Steps.{some_is}
use Rattle.doc_model.specs.Tree.{is_among}
use Rattle.doc_model.specs.declared.node.Node.{Node}
use Rattle.doc_model.specs.declared.node.Node.TheOpen.{Node-F}
use Rattle.doc_model.specs.declared.node.Node.TheViews.{out-Node, out-roll-Node, roll-Node, roll-out-Node}
use Rattle.docs_format.specs.NodeFormat.{Layer, are_bits, bits_of, body, is_bool, is_null, items_in, kind, member}
use Rattle.docs_format.specs.NodeFormat.{members_in, name_behind, number, number_in, opened, same, text_in}
use Rattle.docs_format.specs.NodeFormat as spec
use Rattle.docs_format.specs.Spelling.{is_decimal}

pub unsigned_fits : (units : ℤ) → is_decimal units ≡ true
    → (cast_unsigned w128 units < 256 ^ 16) × (cast_signed w128 (cast_unsigned w128 units) ≡ units)
unsigned_fits (pos n) h =
    let lt : n < 10 ^ 38 = ltb-true n (10 ^ 38) (and_parts true (ltb n (10 ^ 38)) h).1 in
    (omega (arith, lt), to_z-of_z w128 (pos n) (record { sfits = omega (arith, lt) }))
unsigned_fits (negsuc n) h =
    let lt : n < 10 ^ 38 - 1 = ltb-true n (10 ^ 38 - 1) (and_parts (ltb n (10 ^ 38 - 1)) true h).0 in
    (omega (arith, lt), to_z-of_z w128 (negsuc n) (record { sfits = omega (arith, lt) }))

number_there : (n : ℕ) → n < 256 ^ 16 → are_bits n ≡ true → bits_of (cast_signed w128 n) ≡ Some n
number_there n lt h = rw h (ap (λ (m : ℕ). Some m) (of_z-to_z w128 n lt))

number_from : (units : ℤ) (n : ℕ) → bits_of units ≡ Some n → cast_signed w128 n ≡ units
number_from units n e = go (is_decimal units) refl e
  where
    go : (b : Bool) → is_decimal units ≡ b → cond b (Some (cast_unsigned w128 units)) None ≡ Some n
        → cast_signed w128 n ≡ units
    go true t e = ap (cast_signed w128) (sym (some_is (cast_unsigned w128 units) n e)) ∙ (unsigned_fits units t).1
    go false t e = absurd cc

number_lawful : Lawful number
unfolding number
number_lawful =
    made_lawful (cast_signed w128) bits_of (keeping are_bits (wide 16))
    (keeping_lawful are_bits (wide 16) (wide_lawful 16))
    (λ n h.
    let p = and_parts (nat_lt n (256 ^ 16)) (are_bits n) h in
    number_there n (ltb-true n (256 ^ 16) p.0) p.1)
    number_from

null_is : (l : Layer) → is_null l ≡ true → l ≡ Node-F.Null
null_is Node-F.Null h = refl
null_is (Node-F.Bool b) h = absurd cc
null_is (Node-F.Num n) h = absurd cc
null_is (Node-F.Text t) h = absurd cc
null_is (Node-F.Items xs) h = absurd cc
null_is (Node-F.Members ms) h = absurd cc

bool_is : (b : Bool) (l : Layer) → is_bool b l ≡ true → l ≡ Node-F.Bool b
bool_is true (Node-F.Bool true) h = refl
bool_is false (Node-F.Bool false) h = refl
bool_is true (Node-F.Bool false) h = absurd cc
bool_is false (Node-F.Bool true) h = absurd cc
bool_is b Node-F.Null h = absurd cc
bool_is b (Node-F.Num n) h = absurd cc
bool_is b (Node-F.Text t) h = absurd cc
bool_is b (Node-F.Items xs) h = absurd cc
bool_is b (Node-F.Members ms) h = absurd cc

-- what a value of each kind is made of
number_back : (l : Layer) (x : ℤ) → number_in l ≡ Some x → Node-F.Num x ≡ l
number_back Node-F.Null x e = absurd cc
number_back (Node-F.Bool b) x e = absurd cc
number_back (Node-F.Num n) x e = sym (ap Node-F.Num (some_is n x e))
number_back (Node-F.Text t) x e = absurd cc
number_back (Node-F.Items xs) x e = absurd cc
number_back (Node-F.Members ms) x e = absurd cc

text_back : (l : Layer) (x : List ℕ) → text_in l ≡ Some x → Node-F.Text x ≡ l
text_back Node-F.Null x e = absurd cc
text_back (Node-F.Bool b) x e = absurd cc
text_back (Node-F.Num n) x e = absurd cc
text_back (Node-F.Text t) x e = sym (ap Node-F.Text (some_is t x e))
text_back (Node-F.Items xs) x e = absurd cc
text_back (Node-F.Members ms) x e = absurd cc

items_back : (l : Layer) (x : List Node) → items_in l ≡ Some x → Node-F.Items x ≡ l
items_back Node-F.Null x e = absurd cc
items_back (Node-F.Bool b) x e = absurd cc
items_back (Node-F.Num n) x e = absurd cc
items_back (Node-F.Text t) x e = absurd cc
items_back (Node-F.Items xs) x e = sym (ap Node-F.Items (some_is xs x e))
items_back (Node-F.Members ms) x e = absurd cc

members_back : (l : Layer) (x : List (List ℕ × Node)) → members_in l ≡ Some x → Node-F.Members x ≡ l
members_back Node-F.Null x e = absurd cc
members_back (Node-F.Bool b) x e = absurd cc
members_back (Node-F.Num n) x e = absurd cc
members_back (Node-F.Text t) x e = absurd cc
members_back (Node-F.Items xs) x e = absurd cc
members_back (Node-F.Members ms) x e = sym (ap Node-F.Members (some_is ms x e))

-- and its kind
number_kind : (l : Layer) → holds number.fits (number_in l) ≡ true → kind l ≡ 3
number_kind Node-F.Null h = absurd cc
number_kind (Node-F.Bool b) h = absurd cc
number_kind (Node-F.Num n) h = refl
number_kind (Node-F.Text t) h = absurd cc
number_kind (Node-F.Items xs) h = absurd cc
number_kind (Node-F.Members ms) h = absurd cc

text_kind : (l : Layer) → holds text.fits (text_in l) ≡ true → kind l ≡ 4
text_kind Node-F.Null h = absurd cc
text_kind (Node-F.Bool b) h = absurd cc
text_kind (Node-F.Num n) h = absurd cc
text_kind (Node-F.Text t) h = refl
text_kind (Node-F.Items xs) h = absurd cc
text_kind (Node-F.Members ms) h = absurd cc

items_kind : (f : Format (List Node)) (l : Layer) → holds f.fits (items_in l) ≡ true → kind l ≡ 5
items_kind f Node-F.Null h = absurd cc
items_kind f (Node-F.Bool b) h = absurd cc
items_kind f (Node-F.Num n) h = absurd cc
items_kind f (Node-F.Text t) h = absurd cc
items_kind f (Node-F.Items xs) h = refl
items_kind f (Node-F.Members ms) h = absurd cc

members_kind : (f : Format (List (List ℕ × Node))) (l : Layer) → holds f.fits (members_in l) ≡ true → kind l ≡ 6
members_kind f Node-F.Null h = absurd cc
members_kind f (Node-F.Bool b) h = absurd cc
members_kind f (Node-F.Num n) h = absurd cc
members_kind f (Node-F.Text t) h = absurd cc
members_kind f (Node-F.Items xs) h = absurd cc
members_kind f (Node-F.Members ms) h = refl

-- one of two formats
module _ {X : Type 0} (f g : Format X) where
  either : (b : Bool) → Lawful f → Lawful g → Lawful (cond b f g)
  either true F G = F
  either false F G = G

  -- what fits one of them is as what fits that one
  either_fits : (b : Bool) (P : X → Type 0) (x : X) → (b ≡ true → f.fits x ≡ true → P x) → (g.fits x ≡ true → P x)
      → (cond b f g).fits x ≡ true → P x
  either_fits true P x p q h = p refl h
  either_fits false P x p q h = q h

module _ (items : Format (List Node)) (members : Format (List (List ℕ × Node))) where
  body_lawful : Lawful items → Lawful members → (k : ℕ) → Lawful (body items members k)
  body_lawful I M k =
      either _ _ (k == 0) (constant_lawful Node-F.Null is_null refl null_is)
      (either _ _ (k == 1) (constant_lawful (Node-F.Bool false) (is_bool false) refl (bool_is false))
      (either _ _ (k == 2) (constant_lawful (Node-F.Bool true) (is_bool true) refl (bool_is true))
      (either _ _ (k == 3) (made_lawful Node-F.Num number_in number number_lawful (λ y h. refl) number_back)
      (either _ _ (k == 4) (made_lawful Node-F.Text text_in text text_lawful (λ y h. refl) text_back)
      (either _ _ (k == 5) (made_lawful Node-F.Items items_in items I (λ y h. refl) items_back)
      (either _ _ (k == 6) (made_lawful Node-F.Members members_in members M (λ y h. refl) members_back)
      nothing_lawful))))))

  body_kind : (k : ℕ) (l : Layer) → (body items members k).fits l ≡ true → kind l ≡ k
  body_kind k l =
      let P : Layer → Type 0 = λ m. kind m ≡ k in
      either_fits _ _ (k == 0) P l (λ e h. ap kind (null_is l h) ∙ sym (eqb-true k 0 e))
      (either_fits _ _ (k == 1) P l (λ e h. ap kind (bool_is false l h) ∙ sym (eqb-true k 1 e))
      (either_fits _ _ (k == 2) P l (λ e h. ap kind (bool_is true l h) ∙ sym (eqb-true k 2 e))
      (either_fits _ _ (k == 3) P l (λ e h. number_kind l h ∙ sym (eqb-true k 3 e))
      (either_fits _ _ (k == 4) P l (λ e h. text_kind l h ∙ sym (eqb-true k 4 e))
      (either_fits _ _ (k == 5) P l (λ e h. items_kind items l h ∙ sym (eqb-true k 5 e))
      (either_fits _ _ (k == 6) P l (λ e h. members_kind members l h ∙ sym (eqb-true k 6 e)) (λ h. absurd cc)))))))

rolled : (f : Format Layer) → Lawful f → Lawful (made roll-Node opened f)
rolled f F =
    made_lawful roll-Node opened f F (λ y h. ap (λ (l : Layer). Some l) (out-roll-Node y))
    (λ n l e. ap roll-Node (sym (some_is (out-Node n) l e)) ∙ roll-out-Node n)

pub node_lawful : (depth : ℕ) → Lawful (spec.node depth)
unfolding spec.node
node_lawful zero =
    rolled _
    (tagged_lawful (λ k. nat_lt k 5) kind (body nothing nothing)
    (body_lawful nothing nothing nothing_lawful nothing_lawful)
    (body_kind nothing nothing))
node_lawful (suc depth) =
    let inner : Lawful (spec.node depth) = node_lawful depth in
    let I : Lawful (listed (λ _. true) (λ b. spec.node depth) same true) =
    listed_lawful (λ _. true) (λ b. spec.node depth) same true (λ b. inner) in
    let M : Lawful (listed (λ _. true) (member (spec.node depth)) name_behind []) =
    listed_lawful (λ _. true) (member (spec.node depth)) name_behind []
    (λ before. both_lawful (keeping (λ name. not (is_among before name)) text) (λ _. spec.node depth)
    (keeping_lawful (λ name. not (is_among before name)) text text_lawful) (λ _. inner)) in
    rolled _ (tagged_lawful (λ k. nat_lt k 7) kind _ (body_lawful _ _ I M) (body_kind _ _))

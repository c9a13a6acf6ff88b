-- The formats of nodes and documents spell what the definitions of their bytes say.
use Rattle.std.proofs.Common.{◌≡◌, ℕ, zero, suc, ◌^◌, ℤ, Bool, true, false, ◌&&◌, cond, not, nat_le, nat_lt}
use Rattle.std.proofs.Common.{List, [], ◌∷◌, ◌++◌, length, Some, None, refl, sym, ap, subst, ◌∙◌, append_assoc}
use Rattle.std.specs.Int.{w128, cast_unsigned}
use Rattle.std.specs.List.{flat_map}
use Rattle.std.proofs.lemmas.Bool.{and_parts}
use Rattle.byte_formats.specs.Fields.{listed, tagged, text, wide, wide_bytes}
use Rattle.byte_formats.specs.Format.{Format, holds, keeping, made, many}
use Rattle.byte_formats.specs.Leb.{nothing}
use Rattle.doc_model.specs.Documents.{PlainDocument}
use Rattle.doc_model.specs.Tree.{is_among}
use Rattle.doc_model.specs.declared.node.Node.{Node}
use Rattle.doc_model.specs.declared.node.Node.TheVariants as node
use Rattle.doc_model.specs.declared.node.Node.TheOpen.{Node-F}
use Rattle.doc_model.specs.declared.node.Node.TheViews.{out-Node, roll-Node, roll-out-Node}
use Rattle.docs_format.specs.DocumentFormat.{as_last, collection, fields}
use Rattle.docs_format.specs.NodeFormat.{Layer, are_bits, body, kind, member, name_behind}
use Rattle.docs_format.specs.NodeFormat.{number, opened, same}
use Rattle.docs_format.specs.NodeFormat as format
use Rattle.docs_format.specs.Spelling as spell
use Rattle.docs_format.specs.Spelling.{is_decimal}
use Rattle.doc_model.specs.Uri.{is_uri}
use Rattle.docs_format.proofs.Trees.{spell_bool, spell_items, spell_members, spell_null, spell_number, spell_text}

module _ {S X : Type 0} (item : S → Format X) (next : S → X → S) (plain : X → List ℕ)
    (each : (s : S) (x : X) → (item s).fits x ≡ true → (item s).spell x ≡ plain x) where
  many_spells : (s : S) (xs : List X) → (many item next s (length xs)).fits xs ≡ true
      → (many item next s (length xs)).spell xs ≡ flat_map plain xs
  unfolding many
  many_spells s [] h = refl
  many_spells s (x ∷ xs) h =
      let p = and_parts ((item s).fits x) ((many item next (next s x) (length xs)).fits xs) h in
      ap (λ (t : List ℕ). t ++ (many item next (next s x) (length xs)).spell xs) (each s x p.0)
      ∙ ap (λ (t : List ℕ). plain x ++ t) (many_spells (next s x) xs p.1)

  listed_spells : (rule : ℕ → Bool) (s : S) (xs : List X) → (listed rule item next s).fits xs ≡ true
      → (listed rule item next s).spell xs ≡ spell.count (length xs) ++ flat_map plain xs
  unfolding wide_bytes spell.count
  listed_spells rule s xs h =
      let p = and_parts (nat_lt (length xs) (256 ^ 4) && rule (length xs)) ((many item next s (length xs)).fits xs) h in
      ap (λ (t : List ℕ). spell.count (length xs) ++ t) (many_spells s xs p.1)

number_spells : (units : ℤ) → number.fits units ≡ true → number.spell units ≡ spell.number units
unfolding number wide_bytes spell.number
number_spells units h = go (is_decimal units) refl
  where
    go : (b : Bool) → is_decimal units ≡ b → number.spell units ≡ spell.number units
    go true t = rw t refl
    go false t =
        let no : false ≡ true =
        subst
        (λ (b : Bool). holds (keeping are_bits (wide 16)).fits (cond b (Some (cast_unsigned w128 units)) None) ≡ true)
        t h in
        absurd cc

text_spells : (bytes : List ℕ) → text.spell bytes ≡ spell.text bytes
unfolding wide_bytes spell.count
text_spells bytes = refl

module _ (items : Format (List Node)) (members : Format (List (List ℕ × Node)))
    (I : (xs : List Node) → items.fits xs ≡ true → items.spell xs ≡ spell.items xs)
    (M : (ms : List (List ℕ × Node)) → members.fits ms ≡ true → members.spell ms ≡ spell.members ms) where
  layer_spells : (l : Layer) → (body items members (kind l)).fits l ≡ true
      → kind l ∷ (body items members (kind l)).spell l ≡ spell.node (roll-Node l)
  layer_spells Node-F.Null h = sym (ap spell.node node.rolls-Null ∙ spell_null)
  layer_spells (Node-F.Bool true) h = sym (ap spell.node (node.rolls-Bool true) ∙ spell_bool true)
  layer_spells (Node-F.Bool false) h = sym (ap spell.node (node.rolls-Bool false) ∙ spell_bool false)
  layer_spells (Node-F.Num units) h =
      ap (λ (t : List ℕ). 3 ∷ t) (number_spells units h)
      ∙ sym (ap spell.node (node.rolls-Num units) ∙ spell_number units)
  layer_spells (Node-F.Text bytes) h =
      ap (λ (t : List ℕ). 4 ∷ t) (text_spells bytes) ∙ sym (ap spell.node (node.rolls-Text bytes) ∙ spell_text bytes)
  layer_spells (Node-F.Items xs) h =
      ap (λ (t : List ℕ). 5 ∷ t) (I xs h) ∙ sym (ap spell.node (node.rolls-Items xs) ∙ spell_items xs)
  layer_spells (Node-F.Members ms) h =
      ap (λ (t : List ℕ). 6 ∷ t) (M ms h) ∙ sym (ap spell.node (node.rolls-Members ms) ∙ spell_members ms)

  rolled_spells : (known : ℕ → Bool) (n : Node)
      → (made roll-Node opened (tagged known kind (body items members))).fits n ≡ true
      → (made roll-Node opened (tagged known kind (body items members))).spell n ≡ spell.node n
  rolled_spells known n h =
      let l : Layer = out-Node n in
      let p = and_parts (nat_lt (kind l) 256 && known (kind l)) ((body items members (kind l)).fits l) h in
      layer_spells l p.1 ∙ ap spell.node (roll-out-Node n)

member_spells : (value : Format Node) → ((n : Node) → value.fits n ≡ true → value.spell n ≡ spell.node n)
    → (before : List (List ℕ)) (m : List ℕ × Node) → (member value before).fits m ≡ true
    → (member value before).spell m ≡ spell.text m.0 ++ spell.node m.1
member_spells value each before m f =
    let p = and_parts ((keeping (λ name. not (is_among before name)) text).fits m.0) (value.fits m.1) f in
    ap (λ (t : List ℕ). t ++ value.spell m.1) (text_spells m.0)
    ∙ ap (λ (t : List ℕ). spell.text m.0 ++ t) (each m.1 p.1)

pub node_spells : (depth : ℕ) (n : Node) → (format.node depth).fits n ≡ true
    → (format.node depth).spell n ≡ spell.node n
unfolding format.node
node_spells zero n h = rolled_spells nothing nothing (λ xs e. absurd cc) (λ ms e. absurd cc) (λ k. nat_lt k 5) n h
node_spells (suc depth) n h =
    rolled_spells _ _
    (λ xs e. listed_spells (λ b. format.node depth) same spell.node (λ b x f. node_spells depth x f) (λ _. true) true
    xs e)
    (λ ms e. listed_spells (member (format.node depth)) name_behind (λ m. spell.text m.0 ++ spell.node m.1)
    (member_spells (format.node depth) (λ x f. node_spells depth x f)) (λ _. true) [] ms e)
    (λ k. nat_lt k 7) n h

pub fields_spell : (d : PlainDocument) → fields.fits d ≡ true → fields.spell d ≡ spell.document d
unfolding fields
fields_spell d h =
    let inner : Format (List (List ℕ)) = listed (λ n. nat_le n 64) collection as_last [] in
    let root : Format Node = format.node 128 in
    let p = and_parts ((keeping is_uri text).fits d.uri) (inner.fits d.collections && root.fits d.root) h in
    let q = and_parts (inner.fits d.collections) (root.fits d.root) p.1 in
    let names : inner.spell d.collections ≡ spell.texts d.collections =
    listed_spells collection as_last spell.text (λ last x f. text_spells x) (λ n. nat_le n 64) [] d.collections q.0 in
    ap (λ (t : List ℕ). t ++ (inner.spell d.collections ++ root.spell d.root)) (text_spells d.uri)
    ∙ ap (λ (t : List ℕ). spell.text d.uri ++ (t ++ root.spell d.root)) names
    ∙ ap (λ (t : List ℕ). spell.text d.uri ++ (spell.texts d.collections ++ t)) (node_spells 128 d.root q.1)
    ∙ sym (append_assoc (spell.text d.uri) (spell.texts d.collections) (spell.node d.root))

-- A value that is read is a value of the grammar.
use Rattle.std.proofs.Common.{◌≡◌, ℕ, zero, suc, ◌<◌, ◌⊎◌, inl, inr, true, false, List, [], ◌∷◌, ◌++◌, drop, Ok, refl, sym, ap, subst, ◌∙◌, append_assoc, arith}
use Rattle.std.proofs.lemmas.Bool.Decides.{nat_tests}
use Rattle.std.proofs.lemmas.List.{append-nil}
use Rattle.std.proofs.lemmas.Str.{IsUtf8-append, IsUtf8-nil}
use Rattle.std.specs.Str.{IsUtf8}
use Rattle.doc_model.specs.declared.node.Node.{Node}
use Rattle.doc_model.specs.declared.node.Node.TheVariants as node
use Rattle.json_text.specs.declared.lead.Lead.{Lead}
use Rattle.json_text.specs.declared.lead.Lead.TheVariants as lead
use Rattle.json_text.specs.Grammar.{Padded, IsArray, Member, IsObject, last_values, null_text, true_text, false_text, IsScalar, IsValue, IsJson}
use Rattle.json_text.specs.Reading.{◌>>=◌, Read, word_at, behind_white, text_at, number_at, lead_by, lead_of, scalar_at, items_at, members_at, value_by, flat_by, value_at, at_end, text_read}
use Rattle.json_text.proofs.Fronts.{bound, ok_same, ok_pair, word_ok, cons_utf8, word_utf8}
use Rattle.json_text.proofs.FoundNumbers.{number_ok}
use Rattle.json_text.proofs.FoundTexts.{text_ok, string_ok}
use Rattle.json_text.proofs.FoundParts.{Front, Reads, items_ok, members_ok, padded}

-- what a value begins with

pub quote_first : (b : ℕ) → lead_by b ≡ lead.Quote → b ≡ 34
quote_first b h = grind (arith, nat_tests)

pub bracket_first : (b : ℕ) → lead_by b ≡ lead.Bracket → b ≡ 91
bracket_first b h = grind (arith, nat_tests)

pub brace_first : (b : ℕ) → lead_by b ≡ lead.Brace → b ≡ 123
brace_first b h = grind (arith, nat_tests)

pub by_first : (first : ℕ) (l : Lead) → ((b : ℕ) → lead_by b ≡ l → b ≡ first) → (lead.Other ≡ l → ⊥) →
    (bytes : List ℕ) → lead_of bytes ≡ l →
    bytes ≡ first ∷ drop 1 bytes
by_first first l is other [] h = absurd (other h)
by_first first l is other (b ∷ bytes) h = ap (λ (x : ℕ). x ∷ bytes) (is b h)

-- scalars

scalar_ok : (l : Lead) (bytes : List ℕ) (v : Node) (rest : List ℕ) → lead_of bytes ≡ l →
    scalar_at l bytes ≡ Ok (v, rest) →
    Front (λ text. IsScalar text v) bytes rest
unfolding scalar_at
scalar_ok lead.Quote bytes v rest e h =
    let p = bound {B = Node × List ℕ} (text_at (drop 1 bytes)) (λ x. Ok (node.Text x.0, x.1)) (v, rest) h in
    let x = p.value in
    let (made, left) = ok_pair (node.Text x.0) v x.1 rest p.second in
    let t = string_ok (drop 1 bytes) x.0 x.1 (text_ok (drop 1 bytes) x.0 x.1 p.first) in
    record {
      text = t.written;
      is = inr (inr (inr (inr (x.0, t.is, sym made))));
      valid = t.valid;
      spelled = by_first 34 lead.Quote quote_first (λ z. cc) bytes e ∙ t.spelled ∙ ap (λ (z : List ℕ). t.written ++ z)
          left;
    }
scalar_ok lead.True bytes v rest e h =
    let p = bound {B = Node × List ℕ} (word_at true_text bytes) (λ rest. Ok (node.Bool true, rest)) (v, rest) h in
    let (made, left) = ok_pair (node.Bool true) v p.value rest p.second in
    record {
      text = true_text;
      is = inr (inl (refl, sym made));
      valid = word_utf8 true_text refl;
      spelled = word_ok
          true_text bytes p.value p.first ∙ ap (λ (z : List ℕ). true_text ++ z) left;
    }
scalar_ok lead.False bytes v rest e h =
    let p = bound {B = Node × List ℕ} (word_at false_text bytes) (λ rest. Ok (node.Bool false, rest)) (v, rest) h in
    let (made, left) = ok_pair (node.Bool false) v p.value rest p.second in
    record {
      text = false_text;
      is = inr (inr (inl (refl, sym made)));
      valid = word_utf8 false_text refl;
      spelled = word_ok false_text bytes p.value p.first ∙ ap (λ (z : List ℕ). false_text ++ z) left;
    }
scalar_ok lead.Null bytes v rest e h =
    let p = bound {B = Node × List ℕ} (word_at null_text bytes) (λ rest. Ok (node.Null, rest)) (v, rest) h in
    let (made, left) = ok_pair node.Null v p.value rest p.second in
    record {
      text = null_text;
      is = inl (refl, sym made);
      valid = word_utf8 null_text refl;
      spelled = word_ok null_text
          bytes p.value p.first ∙ ap (λ (z : List ℕ). null_text ++ z) left;
    }
scalar_ok lead.Number bytes v rest e h =
    let p = bound {B = Node × List ℕ} (number_at bytes) (λ x. Ok (node.Num x.0, x.1)) (v, rest) h in
    let x = p.value in
    let (made, left) = ok_pair (node.Num x.0) v x.1 rest p.second in
    let n = number_ok bytes x.0 x.1 p.first in
    record {
      text = n.text;
      is = inr (inr (inr (inl (x.0, n.is, sym made))));
      valid = n.valid;
      spelled = n.spelled
          ∙ ap (λ (z : List ℕ). n.text ++ z) left;
    }
scalar_ok lead.Brace bytes v rest e h = absurd cc
scalar_ok lead.Bracket bytes v rest e h = absurd cc
scalar_ok lead.Other bytes v rest e h = absurd cc

pub front_as : (P Q : List ℕ → Type 0) (bytes rest : List ℕ) → ((text : List ℕ) → P text → Q text) →
    Front P bytes rest → Front Q bytes rest
front_as P Q bytes rest to f = record { text = f.text; is = to f.text f.is; valid = f.valid; spelled = f.spelled }

-- ---- values by how many enclose each other

pub flat_ok : (l : Lead) (bytes : List ℕ) (v : Node) (rest : List ℕ) → lead_of bytes ≡ l →
    flat_by l bytes ≡ Ok (v, rest) →
    Front (λ text. IsScalar text v) bytes rest
unfolding flat_by
flat_ok lead.Bracket bytes v rest e h = absurd cc
flat_ok lead.Brace bytes v rest e h = absurd cc
flat_ok lead.Quote bytes v rest e h = scalar_ok lead.Quote bytes v rest e h
flat_ok lead.True bytes v rest e h = scalar_ok lead.True bytes v rest e h
flat_ok lead.False bytes v rest e h = scalar_ok lead.False bytes v rest e h
flat_ok lead.Null bytes v rest e h = scalar_ok lead.Null bytes v rest e h
flat_ok lead.Number bytes v rest e h = scalar_ok lead.Number bytes v rest e h
flat_ok lead.Other bytes v rest e h = scalar_ok lead.Other bytes v rest e h

-- a value of one more level
unfoldable pub IsNested : (List ℕ → Node → Type 0) → List ℕ → Node → Type 0
IsNested IsText bytes v =
    IsScalar bytes v
    ⊎ ((items : List Node) × IsArray IsText bytes items × (v ≡ node.Items items))
    ⊎ ((members : List Member) × IsObject IsText bytes members × (v ≡ node.Members (last_values members)))

nested_scalar : (IsText : List ℕ → Node → Type 0) (l : Lead) (bytes : List ℕ) (v : Node) (rest : List ℕ) →
    lead_of bytes ≡ l →
    scalar_at l bytes ≡ Ok (v, rest) → Front (λ text. IsNested IsText text v) bytes rest
unfolding IsNested
nested_scalar IsText l bytes v rest e h = front_as (λ text. IsScalar text v) (λ text. IsNested IsText text v) bytes
    rest (λ text is. inl is) (scalar_ok l bytes v rest e h)

bracketed : (opening closing : ℕ) (inner behind bytes : List ℕ) → bytes ≡ inner ++ closing ∷ behind →
    opening ∷ bytes ≡ (opening ∷ inner ++ closing ∷ []) ++ behind
bracketed opening closing inner behind bytes e =
    ap (λ (z : List ℕ). opening ∷ z) (e ∙ sym (append_assoc inner (closing ∷ []) behind))

pub bracketed_utf8 : (opening closing : ℕ) (inner : List ℕ) → opening < 128 → closing < 128 → IsUtf8 inner →
    IsUtf8 (opening ∷ inner ++ closing ∷ [])
bracketed_utf8 opening closing inner o c h =
    cons_utf8 opening (inner ++ closing ∷ [])
    o (IsUtf8-append inner (closing ∷ []) h (cons_utf8 closing [] c IsUtf8-nil))

pub nested_ok : (value : List ℕ → Read Node) (IsText : List ℕ → Node → Type 0) → Reads value IsText →
    (l : Lead) (bytes : List ℕ) (v : Node) (rest : List ℕ) →
    lead_of bytes ≡ l → value_by value l bytes ≡ Ok (v, rest) → Front (λ text. IsNested IsText text v) bytes rest
unfolding value_by IsNested
nested_ok value IsText reads lead.Bracket bytes v rest e h =
    let p = bound {B = Node × List ℕ} (items_at value (drop 1 bytes)) (λ x. Ok (node.Items x.0, x.1)) (v, rest) h in
    let x = p.value in
    let (made, left) = ok_pair (node.Items x.0) v x.1 rest p.second in
    let i = items_ok value IsText reads (drop 1 bytes) x.0 x.1 p.first in
    record {
      text = 91 ∷ i.inner ++ 93 ∷ [];
      is = inr (inl (x.0, (i.inner, i.is, refl), sym made));
      valid = bracketed_utf8 91 93 i.inner (omega arith) (omega arith) i.valid;
      spelled = by_first 91 lead.Bracket bracket_first (λ z. cc) bytes e ∙ bracketed 91 93 i.inner rest (drop 1 bytes)
          (i.spelled ∙ ap (λ (z : List ℕ). i.inner ++ 93 ∷ z) left);
    }
nested_ok value IsText reads lead.Brace bytes v rest e h =
    let p = bound {B = Node × List ℕ} (members_at value (drop 1 bytes)) (λ x. Ok (node.Members (last_values x.0), x.1))
    (v, rest) h in
    let x = p.value in
    let (made, left) = ok_pair (node.Members (last_values x.0)) v x.1 rest p.second in
    let i = members_ok value IsText reads (drop 1 bytes) x.0 x.1 p.first in
    record {
      text = 123 ∷ i.inner ++ 125 ∷ [];
      is = inr (inr (x.0, (i.inner, i.is, refl), sym made));
      valid = bracketed_utf8 123 125 i.inner (omega arith) (omega arith) i.valid;
      spelled = by_first 123 lead.Brace brace_first (λ z. cc) bytes e ∙ bracketed 123 125 i.inner rest (drop 1 bytes)
          (i.spelled ∙ ap (λ (z : List ℕ). i.inner ++ 125 ∷ z) left);
    }
nested_ok value IsText reads lead.Quote bytes v rest e h = nested_scalar IsText lead.Quote bytes v rest e h
nested_ok value IsText reads lead.True bytes v rest e h = nested_scalar IsText lead.True bytes v rest e h
nested_ok value IsText reads lead.False bytes v rest e h = nested_scalar IsText lead.False bytes v rest e h
nested_ok value IsText reads lead.Null bytes v rest e h = nested_scalar IsText lead.Null bytes v rest e h
nested_ok value IsText reads lead.Number bytes v rest e h = nested_scalar IsText lead.Number bytes v rest e h
nested_ok value IsText reads lead.Other bytes v rest e h = nested_scalar IsText lead.Other bytes v rest e h

pub value_ok : (depth : ℕ) → Reads (value_at depth) (IsValue depth)
unfolding Reads value_at IsValue IsNested
value_ok zero bytes v rest h = flat_ok (lead_of bytes) bytes v rest refl h
value_ok (suc depth) bytes v rest h = nested_ok (value_at depth) (IsValue depth) (value_ok depth) (lead_of bytes) bytes
    v rest refl h

-- ---- whole texts

ended : (v w : Node) (bytes : List ℕ) → at_end (v, bytes) ≡ Ok w → (v ≡ w) × (bytes ≡ [])
ended v w [] h = (ok_same v w h, refl)
ended v w (b ∷ bytes) h = absurd cc

text_by : (depth : ℕ) (bytes : List ℕ) (v : Node) →
    (value_at depth (behind_white bytes) >>= λ x. at_end (x.0, behind_white x.1)) ≡ Ok v →
    IsUtf8 bytes × Padded (λ text. IsValue depth text v) bytes
unfolding Reads
text_by depth bytes v h =
    let p = bound (value_at depth (behind_white bytes)) (λ x. at_end (x.0, behind_white x.1)) v h in
    let x = p.value in
    let e = ended x.0 v (behind_white x.1) p.second in
    let f = padded (λ text. IsValue depth text x.0) bytes x.1 (value_ok depth (behind_white bytes) x.0 x.1 p.first) in
    let whole : bytes ≡ f.text = f.spelled ∙ ap (λ (z : List ℕ). f.text ++ z) e.1 ∙ append-nil f.text in
    let is : Padded (λ text. IsValue depth text v) f.text = subst (λ (w : Node). Padded (λ text. IsValue depth text w)
    f.text) e.0 f.is in
    (subst IsUtf8 (sym whole) f.valid, subst (λ (z : List ℕ). Padded (λ text. IsValue depth text v) z) (sym whole) is)

-- what is read is in the grammar
pub found : (bytes : List ℕ) (v : Node) → text_read bytes ≡ Ok v → IsJson bytes v
unfolding text_read
found bytes v h = text_by 128 bytes v h

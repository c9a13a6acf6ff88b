-- A text of the grammar is read as the value that it is.
use Rattle.std.proofs.Common.{◌≡◌, ℕ, zero, suc, inl, inr, true, List, [], ◌∷◌, ◌++◌, Ok, refl, sym, ap, subst, ◌∙◌, append_assoc, arith}
use Rattle.std.proofs.lemmas.List.{append-nil}
use Rattle.std.specs.Str.{IsUtf8}
use Rattle.doc_model.specs.declared.node.Node.{Node}
use Rattle.doc_model.specs.declared.node.Node.TheVariants as node
use Rattle.json_text.specs.declared.lead.Lead.{Lead}
use Rattle.json_text.specs.declared.lead.Lead.TheVariants as lead
use Rattle.json_text.specs.Grammar.{Padded, Member, last_values, IsScalar, IsValue, IsJson}
use Rattle.json_text.specs.Reading.{◌>>=◌, Read, behind_white, lead_of, scalar_at, items_at, members_at, value_by, flat_by, value_at, at_end, text_read}
use Rattle.json_text.proofs.FoundValues.{IsNested}
use Rattle.json_text.proofs.Spelled.{cut_after, ends_value}
use Rattle.json_text.proofs.OnlyScalars.{IsFlat, Opens, scalar_here, scalar_opens}
use Rattle.json_text.proofs.OnlyParts.{ReadsBack, items_here, members_here, padded_here}

flat_same : (l : Lead) (bytes : List ℕ) → IsFlat l → flat_by l bytes ≡ scalar_at l bytes
unfolding flat_by IsFlat
flat_same lead.Bracket bytes f = absurd f
flat_same lead.Brace bytes f = absurd f
flat_same lead.Other bytes f = absurd f
flat_same lead.Quote bytes f = refl
flat_same lead.True bytes f = refl
flat_same lead.False bytes f = refl
flat_same lead.Null bytes f = refl
flat_same lead.Number bytes f = refl

nested_same : (value : List ℕ → Read Node) (l : Lead) (bytes : List ℕ) → IsFlat l →
    value_by value l bytes ≡ scalar_at l bytes
unfolding value_by IsFlat
nested_same value lead.Bracket bytes f = absurd f
nested_same value lead.Brace bytes f = absurd f
nested_same value lead.Other bytes f = absurd f
nested_same value lead.Quote bytes f = refl
nested_same value lead.True bytes f = refl
nested_same value lead.False bytes f = refl
nested_same value lead.Null bytes f = refl
nested_same value lead.Number bytes f = refl

flat_here : (text : List ℕ) (v : Node) (rest : List ℕ) → IsScalar text v → IsUtf8 (text ++ rest) →
    ends_value rest ≡ true →
    flat_by (lead_of (text ++ rest)) (text ++ rest) ≡ Ok (v, rest)
flat_here text v rest is u e =
    let s = scalar_here text v rest is u e in
    rw s.is (flat_same s.lead (text ++ rest) s.flat ∙ s.read)

items_value : (value : List ℕ → Read Node) (bytes : List ℕ) (items : List Node) (rest : List ℕ) →
    items_at value bytes ≡ Ok (items, rest) →
    value_by value lead.Bracket (91 ∷ bytes) ≡ Ok (node.Items items, rest)
unfolding value_by
items_value value bytes items rest h = rw h refl

members_value : (value : List ℕ → Read Node) (bytes : List ℕ) (members : List Member) (rest : List ℕ) →
    members_at value bytes ≡ Ok (members, rest) →
    value_by value lead.Brace (123 ∷ bytes) ≡ Ok (node.Members (last_values members), rest)
unfolding value_by
members_value value bytes members rest h = rw h refl

nested_here : (value : List ℕ → Read Node) (IsText : List ℕ → Node → Type 0) → ReadsBack value IsText →
    (text : List ℕ) (v : Node) (rest : List ℕ) →
    IsNested IsText text v → IsUtf8 (text ++ rest) → ends_value rest ≡ true →
    value_by value (lead_of (text ++ rest)) (text ++ rest) ≡ Ok (v, rest)
unfolding IsNested
nested_here value IsText back text v rest (inl is) u e =
    let s = scalar_here text v rest is u e in
    rw s.is (nested_same value s.lead (text ++ rest) s.flat ∙ s.read)
nested_here value IsText back text v rest (inr (inl (items, (inner, is, spelled), value_is))) u e =
    let whole : text ++ rest ≡ 91 ∷ (inner ++ 93 ∷ rest) = ap (λ (x : List ℕ). x ++ rest) spelled
    ∙ ap (λ (x : List ℕ). 91 ∷ x) (append_assoc inner (93 ∷ []) rest) in
    let valid : IsUtf8 (inner ++ 93 ∷ rest) = cut_after [] 91 (inner ++ 93 ∷ rest) (omega arith)
    (subst IsUtf8 whole u) in
    rw (whole, value_is) (items_value value (inner ++ 93 ∷ rest) items
    rest (items_here value IsText back inner items rest is valid))
nested_here value IsText back text v rest (inr (inr (members, (inner, is, spelled), value_is))) u e =
    let whole : text ++ rest ≡ 123 ∷ (inner ++ 125 ∷ rest) = ap (λ (x : List ℕ). x ++ rest) spelled
    ∙ ap (λ (x : List ℕ). 123 ∷ x) (append_assoc inner (125 ∷ []) rest) in
    let valid : IsUtf8 (inner ++ 125 ∷ rest) = cut_after [] 123 (inner ++ 125 ∷ rest) (omega arith)
    (subst IsUtf8 whole u) in
    rw (whole, value_is) (members_value value (inner ++ 125 ∷ rest) members
    rest (members_here value IsText back inner members rest is valid))

nested_opens : (IsText : List ℕ → Node → Type 0) (text : List ℕ) (v : Node) → IsNested IsText text v → Opens text
unfolding IsNested
nested_opens IsText text v (inl is) = scalar_opens text v is
nested_opens IsText text v (inr (inl (items, (inner, is, spelled), value_is))) =
    record { byte = 91; others = inner ++ 93 ∷ []; is = spelled; known = λ z. cc }
nested_opens IsText text v (inr (inr (members, (inner, is, spelled), value_is))) =
    record { byte = 123; others = inner ++ 125 ∷ []; is = spelled; known = λ z. cc }

value_here : (depth : ℕ) → ReadsBack (value_at depth) (IsValue depth)
unfolding value_at IsValue IsNested
value_here zero = record { opens = scalar_opens; reads = flat_here }
value_here (suc depth) =
    record {
      opens = nested_opens (IsValue depth);
      reads = nested_here (value_at depth) (IsValue depth)
          (value_here depth);
    }

-- ---- whole texts

whole_as : (depth : ℕ) (bytes start : List ℕ) (v : Node) (end : List ℕ) → behind_white bytes ≡ start →
    value_at depth start ≡ Ok (v, end) →
    behind_white end ≡ [] → (value_at depth (behind_white bytes) >>= λ x. at_end (x.0, behind_white x.1)) ≡ Ok v
whole_as depth bytes start v end s r e = rw (s, r, e) refl

only_by : (depth : ℕ) (bytes : List ℕ) (v : Node) → IsUtf8 bytes → Padded (λ text. IsValue depth text v) bytes →
    (value_at depth (behind_white bytes) >>= λ x. at_end (x.0, behind_white x.1)) ≡ Ok v
only_by depth bytes v u p =
    let r = padded_here (value_at depth) (IsValue depth) (value_here depth) bytes v []
    p (subst IsUtf8 (sym (append-nil bytes)) u) refl refl in
    whole_as depth bytes r.start v r.end (ap (λ (x : List ℕ). behind_white x) (sym (append-nil bytes)) ∙ r.starts)
    r.reads r.ends

-- what is in the grammar is read
pub only : (bytes : List ℕ) (v : Node) → IsJson bytes v → text_read bytes ≡ Ok v
unfolding text_read
only bytes v h = only_by 128 bytes v h.0 h.1

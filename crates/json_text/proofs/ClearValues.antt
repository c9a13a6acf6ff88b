-- What stands before a fault in a value begins a text that is read.
use Rattle.std.proofs.Common.{◌≡◌, ℕ, zero, suc, inl, inr, true, false, List, [], ◌∷◌, ◌++◌, length, drop, map, Ok, Err, refl, sym, ap, subst, ◌∙◌, arith}
use Rattle.std.proofs.lemmas.List.{append-nil}
use Rattle.std.proofs.lemmas.Str.{IsUtf8-nil}
use Rattle.doc_model.specs.declared.node.Node.{Node}
use Rattle.doc_model.specs.declared.node.Node.TheVariants as node
use Rattle.json_text.specs.declared.fault.Fault.{Fault}
use Rattle.json_text.specs.declared.fault.Fault.TheVariants as fault
use Rattle.json_text.specs.declared.lead.Lead.{Lead}
use Rattle.json_text.specs.declared.lead.Lead.TheVariants as lead
use Rattle.json_text.specs.Grammar.{IsMember, last_values, null_text, true_text, false_text, IsScalar, IsValue}
use Rattle.json_text.specs.Faults.{IsToken, IsEscape}
use Rattle.json_text.specs.Reading.{◌>>=◌, Read, unexpected, byte_at, word_at, behind_white, text_at, number_at, lead_of, scalar_at, items_at, members_at, value_by, flat_by, value_at, at_end}
use Rattle.json_text.proofs.Fronts.{byte_ok, whites, white_utf8, word_utf8}
use Rattle.json_text.proofs.FoundParts.{padded, IsItem, Reads}
use Rattle.json_text.proofs.FoundValues.{value_ok, IsNested, by_first, quote_first, bracket_first, brace_first}
use Rattle.json_text.proofs.Machine.{Due, byte, value, takes, react, accepts, taken, missing, byte_run}
use Rattle.json_text.proofs.Cuts.{left_of, either_failed, ok_no_err, err_same, byte_err}
use Rattle.json_text.proofs.CutParts.{IsInner}
use Rattle.json_text.proofs.CutScalars.{true_first, false_first, null_first, word_tail, IsFlat}
use Rattle.json_text.proofs.CutValues.{end_err}
use Rattle.json_text.proofs.Clears.{at_value, Says, Clear, clear_in, clear_at, nothing, escape_first, part_of_value, Nulls, clear_value}
use Rattle.json_text.proofs.ClearNumbers.{number_clear}
use Rattle.json_text.proofs.ClearStrings.{IsEnd, string_end, text_clear}
use Rattle.json_text.proofs.ClearParts.{Any, Clears, bare, white_before, space_behind, listed_of, items_clear}
use Rattle.json_text.proofs.ClearMembers.{members_clear}

-- ---- words

-- a front of the word stands here, and its next byte doesn't
record WordFails (word bytes : List ℕ) (f : Fault) : Type 0 where
  front : List ℕ
  next : ℕ
  behind : List ℕ
  rest : List ℕ
  word_is : word ≡ front ++ next ∷ behind
  spelled : bytes ≡ front ++ rest
  is : unexpected rest ≡ f

word_fails : (word bytes : List ℕ) (f : Fault) → word_at word bytes ≡ Err f → WordFails word bytes f
unfolding word_at
word_fails [] bytes f h = absurd cc
word_fails (w ∷ word) bytes f h =
    either_failed {B = List ℕ} (byte_at w bytes) (λ behind. word_at word behind) f (WordFails (w ∷ word) bytes f)
    (λ e. record {
      front = [];
      next = w;
      behind = word;
      rest = bytes;
      word_is = refl;
      spelled = refl;
      is = (byte_err w bytes f e).0;
    })
    (λ x e g. let c = word_fails word x f g in
    record {
      front = w ∷ c.front;
      next = c.next;
      behind = c.behind;
      rest = c.rest;
      word_is = ap (λ (y : List ℕ). w ∷ y) c.word_is;
      spelled = byte_ok w bytes x e ∙ ap (λ (y : List ℕ). w ∷ y) c.spelled;
      is = c.is;
    }) h

cut_word : (front : List ℕ) (next : ℕ) (behind : List ℕ) (stack : List Due) →
    accepts front (map byte (front ++ next ∷ behind) ++ stack) ≡ false
cut_word [] next behind stack = missing (byte next) (map byte behind ++ stack) refl
cut_word (b ∷ front) next behind stack = byte_run b front (map byte (front ++ next ∷ behind) ++ stack)
    ∙ cut_word front next behind stack

word_clear : (Is : List ℕ → Type 0) (first : ℕ) (word bytes : List ℕ) (f : Fault) → Nulls Is →
    bytes ≡ first ∷ drop 1 bytes → IsToken (first ∷ word) →
    (first ≡ 92 → ⊥) → react (value 0) first ≡ takes (map byte word) → word_at (first ∷ word) bytes ≡ Err f →
    Clear Is bytes f
word_clear Is first word bytes f nulls spelled is other takes_it h =
    let c = word_fails word (drop 1 bytes) f (word_tail first word bytes (drop 1 bytes) f spelled h) in
    let whole : IsToken ((first ∷ c.front) ++ c.next ∷ c.behind) = subst (λ (x : List ℕ). IsToken (first ∷ x)) c.word_is
    is in
    let cut : accepts c.front (map byte word ++ []) ≡ false = ap (λ (x : List ℕ). accepts c.front (map byte x ++ []))
    c.word_is ∙ cut_word c.front c.next c.behind [] in
    clear_at Is [] (first ∷ c.front) c.rest null_text bytes f IsUtf8-nil (word_utf8 null_text refl)
    (spelled ∙ ap (λ (x : List ℕ). first ∷ x) c.spelled) c.is
    (part_of_value (first ∷ c.front) (c.next ∷ c.behind, whole) (no_escape c.front)
    (taken (value 0) first (map byte word) c.front [] takes_it ∙ cut))
    (nulls 32 refl)
  where
    no_escape : (front : List ℕ) → IsEscape (first ∷ front) → ⊥
    no_escape front escape = let (rest, e) = escape_first (first ∷ front) escape in let same : first ≡ 92 = cc in
        other same

-- ---- scalars

nulls_any : (IsText : List ℕ → Node → Type 0) → IsText null_text node.Null → Nulls (Any (IsItem IsText))
nulls_any IsText is b w = (
  node.Null,
  record {
    before = b ∷ [];
    text = null_text;
    behind = [];
    white_before = rw w refl;
    white_behind = refl;
    is_text = is;
    spelled = refl;
  },
)

scalar_clear : (IsText : List ℕ → Node → Type 0) → ((text : List ℕ) (v : Node) → IsScalar text v → IsText text v) →
    (l : Lead) (bytes : List ℕ) (f : Fault) → IsFlat l → lead_of bytes ≡ l → scalar_at l bytes ≡ Err f →
    Clear (Any (IsItem IsText)) bytes f
unfolding scalar_at
scalar_clear IsText to lead.Quote bytes f flat e h =
    either_failed {B = Node × List ℕ} (text_at (drop 1 bytes)) (λ x. Ok (node.Text x.0, x.1))
    f (Clear (Any (IsItem IsText)) bytes f)
    (λ g. clear_in IsEnd (Any (IsItem IsText)) (34 ∷ []) [] bytes (drop 1 bytes) f (word_utf8 (34 ∷ []) refl) IsUtf8-nil
    (by_first 34 lead.Quote quote_first (λ z. cc) bytes e)
    (λ text end. subst (λ (x : List ℕ). Any (IsItem IsText) (34 ∷ x)) (sym (append-nil text)) (
      node.Text end.text,
      bare (λ t. IsText t (node.Text end.text)) (34 ∷ text)
          (to (34 ∷ text) (node.Text end.text) (inr (inr (inr (inr (end.text, string_end text end, refl)))))),
    ))
    (text_clear (drop 1 bytes) f g))
    (λ x p never. absurd (ok_no_err (node.Text x.0, x.1) f never)) h
scalar_clear IsText to lead.True bytes f flat e h =
    either_failed {B = Node × List ℕ} (word_at true_text bytes) (λ rest. Ok (node.Bool true, rest))
    f (Clear (Any (IsItem IsText)) bytes f)
    (λ g. word_clear (Any (IsItem IsText)) 116 (114 ∷ 117 ∷ 101 ∷ []) bytes
    f (nulls_any IsText (to null_text node.Null (inl (refl, refl))))
    (by_first 116 lead.True true_first (λ z. cc) bytes e) (inr (inl refl)) (λ z. absurd (omega arith)) refl g)
    (λ x p never. absurd (ok_no_err (node.Bool true, x) f never)) h
scalar_clear IsText to lead.False bytes f flat e h =
    either_failed {B = Node × List ℕ} (word_at false_text bytes) (λ rest. Ok (node.Bool false, rest))
    f (Clear (Any (IsItem IsText)) bytes f)
    (λ g. word_clear (Any (IsItem IsText)) 102 (97 ∷ 108 ∷ 115 ∷ 101 ∷ []) bytes
    f (nulls_any IsText (to null_text node.Null (inl (refl, refl))))
    (by_first 102 lead.False false_first (λ z. cc) bytes e) (inr (inr (inl refl))) (λ z. absurd (omega arith)) refl
    g)
    (λ x p never. absurd (ok_no_err (node.Bool false, x) f never)) h
scalar_clear IsText to lead.Null bytes f flat e h =
    either_failed {B = Node × List ℕ} (word_at null_text bytes) (λ rest. Ok (node.Null, rest))
    f (Clear (Any (IsItem IsText)) bytes f)
    (λ g. word_clear (Any (IsItem IsText)) 110 (117 ∷ 108 ∷ 108 ∷ []) bytes
    f (nulls_any IsText (to null_text node.Null (inl (refl, refl))))
    (by_first 110 lead.Null null_first (λ z. cc) bytes e) (inl refl) (λ z. absurd (omega arith)) refl g)
    (λ x p never. absurd (ok_no_err (node.Null, x) f never)) h
scalar_clear IsText to lead.Number bytes f flat e h =
    either_failed {B = Node × List ℕ} (number_at bytes) (λ x. Ok (node.Num x.0, x.1))
    f (Clear (Any (IsItem IsText)) bytes f)
    (λ g. number_clear (Any (IsItem IsText)) bytes f (nulls_any IsText (to null_text node.Null (inl (refl, refl)))) e g)
    (λ x p never. absurd (ok_no_err (node.Num x.0, x.1) f never)) h
scalar_clear IsText to lead.Brace bytes f flat e h = absurd flat
scalar_clear IsText to lead.Bracket bytes f flat e h = absurd flat
scalar_clear IsText to lead.Other bytes f flat e h =
    clear_at (Any (IsItem IsText)) [] [] bytes null_text bytes f IsUtf8-nil (word_utf8 null_text refl)
    refl (err_same {A = Node × List ℕ} (unexpected bytes) f h)
    nothing (nulls_any IsText (to null_text node.Null (inl (refl, refl))) 32 refl)

-- ---- values by how many enclose each other

depth_clear : (bytes : List ℕ) (f : Fault) → fault.Depth (length bytes) ≡ f →
    Clear (Any (IsItem (λ text v. IsScalar text v))) bytes f
depth_clear bytes f e =
    let says : Says (fault.Depth (length bytes)) at_value bytes = refl in
    clear_value (Any (IsItem (λ text v. IsScalar text v))) bytes
    f (nulls_any (λ text v. IsScalar text v) (inl (refl, refl))) (ap (λ (g : Fault). left_of g) (sym e))
    (subst (λ (g : Fault). Says g at_value bytes) e says)

flat_clear : (l : Lead) (bytes : List ℕ) (f : Fault) → lead_of bytes ≡ l → flat_by l bytes ≡ Err f →
    Clear (Any (IsItem (λ text v. IsScalar text v))) bytes f
unfolding flat_by
flat_clear lead.Bracket bytes f e h =
    depth_clear bytes f (err_same {A = Node × List ℕ} (fault.Depth (length bytes)) f h)
flat_clear lead.Brace bytes f e h = depth_clear bytes f (err_same {A = Node × List ℕ} (fault.Depth (length bytes)) f h)
flat_clear lead.Quote bytes f e h = scalar_clear (λ text v. IsScalar text v) (λ text v is. is) lead.Quote bytes f tt e h
flat_clear lead.True bytes f e h = scalar_clear (λ text v. IsScalar text v) (λ text v is. is) lead.True bytes f tt e h
flat_clear lead.False bytes f e h = scalar_clear (λ text v. IsScalar text v) (λ text v is. is) lead.False bytes f tt e h
flat_clear lead.Null bytes f e h = scalar_clear (λ text v. IsScalar text v) (λ text v is. is) lead.Null bytes f tt e h
flat_clear lead.Number bytes f e h = scalar_clear (λ text v. IsScalar text v) (λ text v is. is) lead.Number bytes f tt e
    h
flat_clear lead.Other bytes f e h = scalar_clear (λ text v. IsScalar text v) (λ text v is. is) lead.Other bytes f tt e h

plain_nested : (IsText : List ℕ → Node → Type 0) (l : Lead) (bytes : List ℕ) (f : Fault) → IsFlat l →
    lead_of bytes ≡ l → scalar_at l bytes ≡ Err f →
    Clear (Any (IsItem (IsNested IsText))) bytes f
unfolding IsNested
plain_nested IsText l bytes f flat e h = scalar_clear (IsNested IsText) (λ text v is. inl is) l bytes f flat e h

array_text : (IsText : List ℕ → Node → Type 0) (text : List ℕ) → IsInner (Any (IsItem IsText)) 93 text →
    Any (IsItem (IsNested IsText)) (91 ∷ text)
unfolding IsNested
array_text IsText text (inner, are, e) =
    let p = listed_of (IsItem IsText) inner are in (
      node.Items p.0,
      bare (λ t. IsNested IsText t (node.Items p.0)) (91 ∷ text)
          (inr (inl (p.0, (inner, p.1, ap (λ (x : List ℕ). 91 ∷ x) e), refl))),
    )

object_text : (IsText : List ℕ → Node → Type 0) (text : List ℕ) → IsInner (Any (IsMember IsText)) 125 text →
    Any (IsItem (IsNested IsText)) (123 ∷ text)
unfolding IsNested
object_text IsText text (inner, are, e) =
    let p = listed_of (IsMember IsText) inner are in
    let v = node.Members (last_values p.0) in (
      v,
      bare (λ t. IsNested IsText t v) (123 ∷ text)
          (inr (inr (p.0, (inner, p.1, ap (λ (x : List ℕ). 123 ∷ x) e), refl))),
    )

nested_clear : (read : List ℕ → Read Node) (IsText : List ℕ → Node → Type 0) → Clears read IsText →
    (l : Lead) (bytes : List ℕ) (f : Fault) →
    lead_of bytes ≡ l → value_by read l bytes ≡ Err f → Clear (Any (IsItem (IsNested IsText))) bytes f
unfolding value_by
nested_clear read IsText s lead.Bracket bytes f e h =
    either_failed {B = Node × List ℕ} (items_at read (drop 1 bytes)) (λ x. Ok (node.Items x.0, x.1))
    f (Clear (Any (IsItem (IsNested IsText))) bytes f)
    (λ g. clear_in (IsInner (Any (IsItem IsText)) 93) (Any (IsItem (IsNested IsText))) (91 ∷ []) [] bytes (drop 1 bytes)
    f (word_utf8 (91 ∷ []) refl) IsUtf8-nil (by_first 91 lead.Bracket bracket_first (λ z. cc) bytes e)
    (λ text is. subst (λ (x : List ℕ). Any (IsItem (IsNested IsText)) (91 ∷ x)) (sym (append-nil text))
    (array_text IsText text is)) (items_clear read IsText s (drop 1 bytes) f g))
    (λ x p never. absurd (ok_no_err (node.Items x.0, x.1) f never)) h
nested_clear read IsText s lead.Brace bytes f e h =
    either_failed {B = Node × List ℕ} (members_at read (drop 1 bytes)) (λ x. Ok (node.Members (last_values x.0), x.1))
    f (Clear (Any (IsItem (IsNested IsText))) bytes f)
    (λ g. clear_in (IsInner (Any (IsMember IsText)) 125) (Any (IsItem (IsNested IsText)))
    (123 ∷ []) [] bytes (drop 1 bytes) f (word_utf8 (123 ∷ []) refl) IsUtf8-nil
    (by_first 123 lead.Brace brace_first (λ z. cc) bytes e)
    (λ text is. subst (λ (x : List ℕ). Any (IsItem (IsNested IsText)) (123 ∷ x)) (sym (append-nil text))
    (object_text IsText text is)) (members_clear read IsText s (drop 1 bytes) f g))
    (λ x p never. absurd (ok_no_err (node.Members (last_values x.0), x.1) f never)) h
nested_clear read IsText s lead.Quote bytes f e h = plain_nested IsText lead.Quote bytes f tt e h
nested_clear read IsText s lead.True bytes f e h = plain_nested IsText lead.True bytes f tt e h
nested_clear read IsText s lead.False bytes f e h = plain_nested IsText lead.False bytes f tt e h
nested_clear read IsText s lead.Null bytes f e h = plain_nested IsText lead.Null bytes f tt e h
nested_clear read IsText s lead.Number bytes f e h = plain_nested IsText lead.Number bytes f tt e h
nested_clear read IsText s lead.Other bytes f e h = plain_nested IsText lead.Other bytes f tt e h

value_clears : (depth : ℕ) → Clears (value_at depth) (IsValue depth)
unfolding value_at IsValue IsNested
value_clears zero = record {
  null = inl (refl, refl);
  fails = λ bytes f h. flat_clear (lead_of bytes) bytes f refl h;
  reads = value_ok zero;
}
value_clears (suc depth) = record {
  null = inl (inl (refl, refl));
  fails = λ bytes f h. nested_clear (value_at depth) (IsValue depth) (value_clears depth) (lead_of bytes) bytes f refl
      h;
  reads = value_ok (suc depth);
}

-- ---- whole texts

pub text_clears : (depth : ℕ) (bytes : List ℕ) (f : Fault) →
    (value_at depth (behind_white bytes) >>= λ x. at_end (x.0, behind_white x.1)) ≡ Err f →
    Clear (Any (IsItem (IsValue depth))) bytes f
unfolding Reads
text_clears depth bytes f h =
    let s = value_clears depth in
    let w = whites bytes in
    let z = behind_white bytes in
    either_failed {B = Node} (value_at depth z) (λ x. at_end (x.0, behind_white x.1))
    f (Clear (Any (IsItem (IsValue depth))) bytes f)
    (λ e. clear_in (Any (IsItem (IsValue depth))) (Any (IsItem (IsValue depth))) w.white [] bytes z
    f (white_utf8 w.white w.is_white) IsUtf8-nil w.spelled
    (λ text is. subst (λ (x : List ℕ). Any (IsItem (IsValue depth)) (w.white ++ x)) (sym (append-nil text))
    (is.0, white_before (λ t. IsValue depth t is.0) w.white w.is_white text is.1)) (s.fails z f e))
    (λ x p g. let q = padded (λ t. IsValue depth t x.0) bytes x.1 (s.reads z x.0 x.1 p) in
    clear_at (Any (IsItem (IsValue depth))) q.text [] (behind_white x.1) [] bytes f q.valid IsUtf8-nil q.spelled
    (end_err x.0 (behind_white x.1) f g).0 nothing
    (x.0, space_behind (λ t. IsValue depth t x.0) q.text q.is)) h

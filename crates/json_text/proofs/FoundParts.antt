-- An item or a member that is read is one of the grammar.
use Rattle.std.proofs.Common.{◌≡◌, ℕ, ◌==◌, Bool, true, false, cond, List, [], ◌∷◌, ◌++◌, length, Option, Some, None, Ok, Err, refl, sym, ap, subst, ◌∙◌, append_assoc, arith}
use Rattle.std.proofs.lemmas.Bool.{eqb-true}
use Rattle.std.proofs.lemmas.Str.{IsUtf8-append}
use Rattle.std.specs.Str.{IsUtf8}
use Rattle.doc_model.specs.declared.node.Node.{Node}
use Rattle.json_text.specs.Strings.{IsString}
use Rattle.json_text.specs.Grammar.{Padded, Each, joined, Listed, Member, IsMember}
use Rattle.json_text.specs.Reading.{◌>>=◌, Read, unexpected, strip, byte_at, behind_white, repeated, text_at, separator_at, item_at, name_at, member_at, unless_closed, items_at, members_at}
use Rattle.json_text.proofs.Fronts.{bound, ok_pair, stripped, byte_ok, whites, cons_utf8, white_utf8}
use Rattle.json_text.proofs.FoundTurns.{Turns, last, more, turns_ok}
use Rattle.json_text.proofs.FoundTexts.{text_ok, string_ok}

-- a text at the front, and what is behind it
pub record Front (IsText : List ℕ → Type 0) (bytes rest : List ℕ) : Type 0 where
  pub text : List ℕ
  pub is : IsText text
  pub valid : IsUtf8 text
  pub spelled : bytes ≡ text ++ rest

-- ---- parts with commas

separator_by : (closing b : ℕ) (bytes : List ℕ) (again : Bool) (rest : List ℕ) (c k : Bool) → (b == 44) ≡ c →
    (b == closing) ≡ k →
    ◌≡◌ {A = Read Bool} (cond c (Ok (true, bytes)) (cond k (Ok (false, bytes)) (Err (unexpected (b ∷ bytes)))))
    (Ok (again, rest)) → b ∷ bytes ≡ cond again 44 closing ∷ rest
separator_by closing b bytes again rest true k e f h =
    let (made, left) = ok_pair true again bytes rest h in
    ap (λ (x : ℕ). x ∷ bytes) (eqb-true b 44 e) ∙ ap (λ (x : List ℕ). 44 ∷ x) left
    ∙ ap (λ (x : Bool). cond x 44 closing ∷ rest) made
separator_by closing b bytes again rest false true e f h =
    let (made, left) = ok_pair false again bytes rest h in
    ap (λ (x : ℕ). x ∷ bytes) (eqb-true b closing f) ∙ ap (λ (x : List ℕ). closing ∷ x) left
    ∙ ap (λ (x : Bool). cond x 44 closing ∷ rest) made
separator_by closing b bytes again rest false false e f h = absurd cc

pub separator_ok : (closing : ℕ) (bytes : List ℕ) (again : Bool) (rest : List ℕ) →
    separator_at closing bytes ≡ Ok (again, rest) →
    bytes ≡ cond again 44 closing ∷ rest
unfolding separator_at
separator_ok closing [] again rest h = absurd cc
separator_ok closing (b ∷ bytes) again rest h = separator_by closing b bytes again rest (b == 44) (b == closing) refl
    refl h

-- one part, and the comma or the bracket behind it
pub record Part {Y : Type 0} (IsPart : List ℕ → Y → Type 0) (closing : ℕ) (bytes : List ℕ) (ys : List Y) (again : Bool)
    (rest : List ℕ) : Type 0 where
  pub one : Y
  pub are : ys ≡ one ∷ []
  pub part : List ℕ
  pub is : IsPart part one
  pub valid : IsUtf8 part
  pub spelled : bytes ≡ part ++ cond again 44 closing ∷ rest

pub record Parts {Y : Type 0} (IsPart : List ℕ → Y → Type 0) (closing : ℕ) (bytes : List ℕ) (ys : List Y)
    (rest : List ℕ) : Type 0 where
  pub first : Y
  pub others : List Y
  pub are : ys ≡ first ∷ others
  pub part : List ℕ
  pub parts : List (List ℕ)
  pub each : Each IsPart (part ∷ parts) (first ∷ others)
  pub valid : IsUtf8 (joined (part ∷ parts))
  pub spelled : bytes ≡ joined (part ∷ parts) ++ closing ∷ rest

parts_ok : {Y : Type 0} (IsPart : List ℕ → Y → Type 0) (closing : ℕ) (step : List ℕ → Read (List Y × Bool)) →
    ((bytes : List ℕ) (ys : List Y) (again : Bool) (rest : List ℕ) → step bytes ≡ Ok ((ys, again), rest) →
    Part IsPart closing bytes ys again rest) →
    (bytes : List ℕ) (ys : List Y) (rest : List ℕ) → Turns step bytes ys rest → Parts IsPart closing bytes ys rest
parts_ok {Y = Y} IsPart closing step ok bytes ys rest (last _ _ _ e) =
    let p = ok bytes ys false rest e in
    record {
      first = p.one;
      others = [];
      are = p.are;
      part = p.part;
      parts = [];
      each = (p.is, tt);
      valid = p.valid;
      spelled = p.spelled;
    }
parts_ok {Y = Y} IsPart closing step ok bytes whole end (more _ ys rest zs _ e turns) =
    let p = ok bytes ys true rest e in
    let q = parts_ok IsPart closing step ok rest zs end turns in
    record {
      first = p.one;
      others = q.first ∷ q.others;
      are = ap (λ (x : List Y). x ++ zs) p.are ∙ ap (λ (x : List Y). p.one ∷ x) q.are;
      part = p.part;
      parts = q.part ∷ q.parts;
      each = (p.is, q.each);
      valid = IsUtf8-append p.part (44 ∷ joined (q.part ∷ q.parts)) p.valid (cons_utf8 44 (joined (q.part ∷ q.parts))
          (omega arith) q.valid);
      spelled = p.spelled ∙ ap (λ (x : List ℕ). p.part ++ 44 ∷ x) q.spelled
          ∙ sym (append_assoc p.part (44 ∷ joined (q.part ∷ q.parts)) (closing ∷ end));
    }

-- between brackets
pub record Inner {Y : Type 0} (IsPart : List ℕ → Y → Type 0) (closing : ℕ) (bytes : List ℕ) (ys : List Y)
    (rest : List ℕ) : Type 0 where
  pub inner : List ℕ
  pub is : Listed IsPart inner ys
  pub valid : IsUtf8 inner
  pub spelled : bytes ≡ inner ++ closing ∷ rest

some_inner : {Y : Type 0} (IsPart : List ℕ → Y → Type 0) (closing : ℕ) (bytes : List ℕ) (ys : List Y) (rest : List ℕ) →
    Parts IsPart closing bytes ys rest → Inner IsPart closing bytes ys rest
some_inner {Y = Y} IsPart closing bytes ys rest p =
    let is : Listed IsPart (joined (p.part ∷ p.parts)) (p.first ∷ p.others) = (p.part ∷ p.parts, p.each, refl) in
    record {
      inner = joined (p.part ∷ p.parts);
      is = subst (λ (x : List Y). Listed IsPart (joined (p.part ∷ p.parts)) x)
          (sym p.are) is;
      valid = p.valid;
      spelled = p.spelled;
    }

inner_by : {Y : Type 0} (IsPart : List ℕ → Y → Type 0) (closing : ℕ) (step : List ℕ → Read (List Y × Bool)) →
    ((bytes : List ℕ) (ys : List Y) (again : Bool) (rest : List ℕ) → step bytes ≡ Ok ((ys, again), rest) →
    Part IsPart closing bytes ys again rest) →
    (bytes : List ℕ) (ys : List Y) (rest : List ℕ) (o : Option (List ℕ)) → strip closing (behind_white bytes) ≡ o →
    unless_closed (repeated step (length bytes) bytes) o ≡ Ok (ys, rest) → Inner IsPart closing bytes ys rest
inner_by {Y = Y} IsPart closing step ok bytes ys rest None e h =
    some_inner IsPart closing bytes ys
    rest (parts_ok IsPart closing step ok bytes ys rest (turns_ok step (length bytes) bytes ys rest h))
inner_by {Y = Y} IsPart closing step ok bytes ys rest (Some behind) e h =
    let (made, left) = ok_pair {A = List Y} [] ys behind rest h in
    let w = whites bytes in
    record {
      inner = w.white;
      is = subst (λ (x : List Y). Listed IsPart w.white x) made w.is_white;
      valid = white_utf8 w.white w.is_white;
      spelled = w.spelled ∙ ap (λ (x : List ℕ). w.white ++ x) (stripped closing (behind_white bytes) behind e
          ∙ ap (λ (x : List ℕ). closing ∷ x) left);
    }

-- ---- values

-- white space, a text and white space
pub padded : (IsText : List ℕ → Type 0) (bytes behind : List ℕ) → Front IsText (behind_white bytes) behind →
    Front (Padded IsText) bytes (behind_white behind)
padded IsText bytes behind f =
    let v = whites bytes in
    let w = whites behind in
    record {
      text = v.white ++ f.text ++ w.white;
      is = record {
        before = v.white;
        text = f.text;
        behind = w.white;
        white_before = v.is_white;
        white_behind = w.is_white;
        is_text = f.is;
        spelled = refl;
      };
      valid = IsUtf8-append (v.white ++ f.text) w.white (IsUtf8-append v.white f.text (white_utf8 v.white v.is_white)
          f.valid) (white_utf8 w.white w.is_white);
      spelled =
          v.spelled
          ∙ ap (λ (x : List ℕ). v.white ++ x) (f.spelled ∙ ap (λ (x : List ℕ). f.text ++ x) w.spelled)
          ∙ regroup v.white f.text w.white (behind_white behind);
    }
  where
    regroup : (a b c rest : List ℕ) → a ++ (b ++ (c ++ rest)) ≡ a ++ b ++ c ++ rest
    regroup a b c rest = simp append_assoc

-- what is read by this is a text of that
unfoldable pub Reads : (List ℕ → Read Node) → (List ℕ → Node → Type 0) → Type 0
Reads value IsText = (bytes : List ℕ) (v : Node) (rest : List ℕ) → value bytes ≡ Ok (v, rest) →
    Front (λ text. IsText text v) bytes rest

abbrev pub IsItem : (List ℕ → Node → Type 0) → List ℕ → Node → Type 0
IsItem IsText part item = Padded (λ text. IsText text item) part

pub item_ok : (value : List ℕ → Read Node) (IsText : List ℕ → Node → Type 0) → Reads value IsText →
    (bytes : List ℕ) (ys : List Node) (again : Bool) (rest : List ℕ) → item_at value bytes ≡ Ok ((ys, again), rest) →
    Part (IsItem IsText) 93 bytes ys again rest
unfolding item_at Reads
item_ok value IsText reads bytes ys again rest h =
    let p = bound {B = (List Node × Bool) × List ℕ} (value (behind_white bytes))
    (λ item. separator_at 93 (behind_white item.1) >>= λ more. Ok ((item.0 ∷ [], more.0), more.1))
    ((ys, again), rest) h in
    let x = p.value in
    let q = bound {B = (List Node × Bool) × List ℕ} (separator_at 93 (behind_white x.1))
    (λ more. Ok ((x.0 ∷ [], more.0), more.1)) ((ys, again), rest) p.second in
    let y = q.value in
    let (both, left) = ok_pair {A = List Node × Bool} (x.0 ∷ [], y.0) (ys, again) y.1 rest q.second in
    let f = padded (λ text. IsText text x.0) bytes x.1 (reads (behind_white bytes) x.0 x.1 p.first) in
    record {
      one = x.0;
      are = sym (ap (λ (z : List Node × Bool). z.0) both);
      part = f.text;
      is = f.is;
      valid = f.valid;
      spelled =
          f.spelled
          ∙ ap (λ (z : List ℕ). f.text ++ z) (separator_ok 93 (behind_white x.1) y.0 y.1 q.first
          ∙ ap (λ (z : Bool). cond z 44 93 ∷ y.1) (ap (λ (z : List Node × Bool). z.1) both)
          ∙ ap (λ (z : List ℕ). cond again 44 93 ∷ z) left);
    }

-- a name, white space and a colon
pub name_ok : (bytes name rest : List ℕ) → name_at (behind_white bytes) ≡ Ok (name, rest) →
    Front (λ part. Padded (λ text. IsString text (Some name)) part) bytes (58 ∷ rest)
unfolding name_at
name_ok bytes name rest h =
    let p = bound (byte_at 34 (behind_white bytes))
    (λ text. text_at text >>= λ name. byte_at 58 (behind_white name.1) >>= λ rest. Ok (name.0, rest))
    (name, rest) h in
    let q = bound (text_at p.value) (λ name. byte_at 58 (behind_white name.1) >>= λ rest. Ok (name.0, rest))
    (name, rest) p.second in
    let x = q.value in
    let r = bound (byte_at 58 (behind_white x.1)) (λ rest. Ok (x.0, rest)) (name, rest) q.second in
    let (made, left) = ok_pair x.0 name r.value rest r.second in
    let t = string_ok p.value x.0 x.1 (text_ok p.value x.0 x.1 q.first) in
    let front : Front (λ text. IsString text (Some x.0)) (behind_white bytes) x.1 = record {
      text = t.written;
      is = t.is;
      valid = t.valid;
      spelled = byte_ok 34 (behind_white bytes) p.value p.first
          ∙ t.spelled;
    } in
    let f = padded (λ text. IsString text (Some x.0)) bytes x.1 front in
    record {
      text = f.text;
      is = subst (λ (n : List ℕ). Padded (λ text. IsString text (Some n)) f.text) made f.is;
      valid = f.valid;
      spelled = f.spelled ∙ ap (λ (z : List ℕ). f.text ++ z) (byte_ok 58 (behind_white x.1) r.value r.first
          ∙ ap (λ (z : List ℕ). 58 ∷ z) left);
    }

pub member_ok : (value : List ℕ → Read Node) (IsText : List ℕ → Node → Type 0) → Reads value IsText →
    (bytes : List ℕ) (ys : List Member) (again : Bool) (rest : List ℕ) →
    member_at value bytes ≡ Ok ((ys, again), rest) →
    Part (IsMember IsText) 125 bytes ys again rest
unfolding member_at Reads
member_ok value IsText reads bytes ys again rest h =
    let p = bound {B = (List Member × Bool) × List ℕ} (name_at (behind_white bytes))
    (λ name. value (behind_white name.1) >>= λ inner. separator_at 125 (behind_white inner.1) >>= λ more.
    Ok (((name.0, inner.0) ∷ [], more.0), more.1)) ((ys, again), rest) h in
    let n = p.value in
    let q = bound {B = (List Member × Bool) × List ℕ} (value (behind_white n.1))
    (λ inner. separator_at 125 (behind_white inner.1) >>= λ more. Ok (((n.0, inner.0) ∷ [], more.0), more.1))
    ((ys, again), rest) p.second in
    let x = q.value in
    let r = bound {B = (List Member × Bool) × List ℕ} (separator_at 125 (behind_white x.1))
    (λ more. Ok (((n.0, x.0) ∷ [], more.0), more.1)) ((ys, again), rest) q.second in
    let y = r.value in
    let (both, left) = ok_pair {A = List Member × Bool} ((n.0, x.0) ∷ [], y.0) (ys, again) y.1 rest r.second in
    let f = name_ok bytes n.0 n.1 p.first in
    let g = padded (λ text. IsText text x.0) n.1 x.1 (reads (behind_white n.1) x.0 x.1 q.first) in
    record {
      one = (n.0, x.0);
      are = sym (ap (λ (z : List Member × Bool). z.0) both);
      part = f.text ++ 58 ∷ g.text;
      is = (f.text, g.text, f.is, g.is, refl);
      valid = IsUtf8-append f.text (58 ∷ g.text) f.valid (cons_utf8 58 g.text (omega arith) g.valid);
      spelled =
          f.spelled
          ∙ ap (λ (z : List ℕ). f.text ++ 58 ∷ z)
          (g.spelled ∙ ap (λ (z : List ℕ). g.text ++ z) (separator_ok 125 (behind_white x.1) y.0 y.1 r.first
          ∙ ap (λ (z : Bool). cond z 44 125 ∷ y.1) (ap (λ (z : List Member × Bool). z.1) both)
          ∙ ap (λ (z : List ℕ). cond again 44 125 ∷ z) left))
          ∙ sym (append_assoc f.text (58 ∷ g.text) (cond again 44 125 ∷ rest));
    }

pub items_ok : (value : List ℕ → Read Node) (IsText : List ℕ → Node → Type 0) → Reads value IsText →
    (bytes : List ℕ) (ys : List Node) (rest : List ℕ) →
    items_at value bytes ≡ Ok (ys, rest) → Inner (IsItem IsText) 93 bytes ys rest
unfolding items_at
items_ok value IsText reads bytes ys rest h = inner_by (IsItem IsText) 93 (item_at value) (item_ok value IsText reads)
    bytes ys rest (strip 93 (behind_white bytes)) refl h

pub members_ok : (value : List ℕ → Read Node) (IsText : List ℕ → Node → Type 0) → Reads value IsText →
    (bytes : List ℕ) (ys : List Member) (rest : List ℕ) → members_at value bytes ≡ Ok (ys, rest) →
    Inner (IsMember IsText) 125 bytes ys rest
unfolding members_at
members_ok value IsText reads bytes ys rest h = inner_by (IsMember IsText) 125 (member_at value)
    (member_ok value IsText reads) bytes ys rest (strip 125 (behind_white bytes)) refl h

-- The machine takes each text of the grammar, whatever it holds.
use Rattle.std.proofs.Common.{◌≡◌, ℕ, zero, suc, ◌≤◌, ◌==◌, inl, inr, true, false, List, [], ◌∷◌, ◌++◌, Option, Some, None, refl, sym, ap, ◌∙◌, append_assoc, arith}
use Rattle.std.proofs.lemmas.Bool.{eqb-true, false_from_ne_true}
use Rattle.std.proofs.lemmas.List.{append-nil}
use Rattle.json_text.specs.declared.lead.Lead.TheVariants as lead
use Rattle.json_text.specs.Grammar.{Padded, joined}
use Rattle.json_text.specs.Faults.{IsQuoted, IsPair, Every, AreParts, IsSpelled}
use Rattle.json_text.specs.Reading.{lead_by}
use Rattle.json_text.proofs.Spelled.{ends_value}
use Rattle.json_text.proofs.OnlyScalars.{Opens, opens_stops}
use Rattle.json_text.proofs.Machine.{Due, byte, white, value, item, items, member, members, stop, chars, takes, opened, named, accepts, taken, refused, ended, nothing_due, white_skip, white_run, byte_run}
use Rattle.json_text.proofs.AcceptsScalars.{Fits, Taken, padded_run, plain_opens, plain_run, quoted_chars, regroup}

pub comma_item : (r : ℕ) (bytes : List ℕ) (stack : List Due) →
    accepts (44 ∷ bytes) (white ∷ items r ∷ stack) ≡ accepts bytes (white ∷ value r ∷ white ∷ items r ∷ stack)
comma_item r bytes stack = white_skip (44 ∷ bytes) (items r ∷ stack) refl
    ∙ taken (items r) 44 (white ∷ value r ∷ white ∷ items r ∷ []) bytes stack refl

items_end : (r : ℕ) (bytes : List ℕ) (stack : List Due) → accepts (93 ∷ bytes) (white ∷ items r ∷ stack) ≡ accepts bytes
    stack
items_end r bytes stack = white_skip (93 ∷ bytes) (items r ∷ stack) refl ∙ taken (items r) 93 [] bytes stack refl

pub next_item : (r : ℕ) (Is : List ℕ → Type 0) → Taken r Is → (part bytes : List ℕ) (stack : List Due) →
    Padded Is part →
    accepts (part ++ 44 ∷ bytes) (white ∷ value r ∷ white ∷ items r ∷ stack) ≡ accepts
    bytes (white ∷ value r ∷ white ∷ items r ∷ stack)
next_item r Is t part bytes stack p = padded_run r Is t part (44 ∷ bytes) (items r ∷ stack) p refl
    ∙ comma_item r bytes stack

items_run : (r : ℕ) (Is : List ℕ → Type 0) → Taken r Is → (part : List ℕ) (parts : List (List ℕ)) (bytes : List ℕ)
    (stack : List Due) →
    Padded Is part → Every (Padded Is) parts →
    accepts (joined (part ∷ parts) ++ 93 ∷ bytes) (white ∷ value r ∷ white ∷ items r ∷ stack) ≡ accepts bytes stack
items_run r Is t part [] bytes stack p others = padded_run r Is t part (93 ∷ bytes) (items r ∷ stack) p refl
    ∙ items_end r bytes stack
items_run r Is t part (next ∷ parts) bytes stack p others =
    ap (λ (x : List ℕ). accepts x (white ∷ value r ∷ white ∷ items r ∷ stack))
    (append_assoc part (44 ∷ joined (next ∷ parts)) (93 ∷ bytes))
    ∙ next_item r Is t part (joined (next ∷ parts) ++ 93 ∷ bytes) stack p
    ∙ items_run r Is t next parts bytes stack others.0 others.1

none_open : (b r : ℕ) (bytes : List ℕ) (stack : List Due) (o : Option (List Due)) → opened (lead_by b) b r ≡ o →
    (b == 93) ≡ false →
    accepts (b ∷ bytes) (item r ∷ stack) ≡ accepts (b ∷ bytes) (value r ∷ white ∷ items r ∷ stack)
none_open b r bytes stack None e n =
    refused (item r) b bytes stack (rw (n, e) refl)
    ∙ sym (refused (value r) b bytes (white ∷ items r ∷ stack) (rw e refl))
none_open b r bytes stack (Some due) e n =
    taken (item r) b (due ++ white ∷ items r ∷ []) bytes stack (rw (n, e) refl)
    ∙ ap (λ (s : List Due). accepts bytes s) (append_assoc due (white ∷ items r ∷ []) stack)
    ∙ sym (taken (value r) b due bytes (white ∷ items r ∷ stack)
    (rw e (ap (λ (s : List Due). takes s) (append-nil due))))

-- the first item is a value as any other
pub item_opens : (r b : ℕ) (bytes : List ℕ) (stack : List Due) → (b == 93) ≡ false →
    accepts (b ∷ bytes) (item r ∷ stack) ≡ accepts (b ∷ bytes) (value r ∷ white ∷ items r ∷ stack)
item_opens r b bytes stack n = none_open b r bytes stack (opened (lead_by b) b r) refl n

not_closing : (closing b : ℕ) → lead_by closing ≡ lead.Other → (lead_by b ≡ lead.Other → ⊥) → (b == closing) ≡ false
not_closing closing b c known =
    false_from_ne_true (b == closing) (λ h. known (ap (λ (x : ℕ). lead_by x) (eqb-true b closing h) ∙ c))

pub first_item : (r : ℕ) (Is : List ℕ → Type 0) → Taken r Is → (part bytes : List ℕ) (stack : List Due) →
    Padded Is part →
    accepts (part ++ bytes) (white ∷ item r ∷ stack) ≡ accepts (part ++ bytes)
    (white ∷ value r ∷ white ∷ items r ∷ stack)
first_item r Is t part bytes stack p =
    let o = t.opens p.text p.is_text in
    let start = p.text ++ (p.behind ++ bytes) in
    let opens : start ≡ o.byte ∷ (o.others ++ (p.behind ++ bytes)) = ap (λ (x : List ℕ). x ++ (p.behind ++ bytes))
    o.is in
    let spelled : part ++ bytes ≡ p.before ++ start = ap (λ (x : List ℕ). x ++ bytes) p.spelled
    ∙ regroup p.before p.text p.behind bytes in
    let stop = opens_stops p.text (p.behind ++ bytes) o in
    ap (λ (x : List ℕ). accepts x (white ∷ item r ∷ stack)) spelled
    ∙ white_run p.before start (item r ∷ stack) p.white_before
    ∙ white_skip start (item r ∷ stack) stop
    ∙ ap (λ (x : List ℕ). accepts x (item r ∷ stack)) opens
    ∙ item_opens r o.byte (o.others ++ (p.behind ++ bytes)) stack (not_closing 93 o.byte refl o.known)
    ∙ ap (λ (x : List ℕ). accepts x (value r ∷ white ∷ items r ∷ stack)) (sym opens)
    ∙ sym (white_skip start (value r ∷ white ∷ items r ∷ stack) stop)
    ∙ sym (white_run p.before start (value r ∷ white ∷ items r ∷ stack) p.white_before)
    ∙ ap (λ (x : List ℕ). accepts x (white ∷ value r ∷ white ∷ items r ∷ stack)) (sym spelled)

-- the first of several parts stands at the front of all
front_part : (part : List ℕ) (parts : List (List ℕ)) (bytes : List ℕ) →
    (rest : List ℕ) × (joined (part ∷ parts) ++ bytes ≡ part ++ rest)
front_part part [] bytes = (bytes, refl)
front_part part (next ∷ parts) bytes =
    (44 ∷ joined (next ∷ parts) ++ bytes, append_assoc part (44 ∷ joined (next ∷ parts)) bytes)

array_run : (r : ℕ) (Is : List ℕ → Type 0) → Taken r Is → (inner bytes : List ℕ) (stack : List Due) →
    AreParts (Padded Is) inner →
    accepts (inner ++ 93 ∷ bytes) (white ∷ item r ∷ stack) ≡ accepts bytes stack
array_run r Is t inner bytes stack (inl w) = white_run inner (93 ∷ bytes) (item r ∷ stack) w ∙ white_skip (93 ∷ bytes)
    (item r ∷ stack) refl ∙ taken (item r) 93 [] bytes stack refl
array_run r Is t inner bytes stack (inr (part, parts, p, others, spelled)) =
    let (rest, front) = front_part part parts (93 ∷ bytes) in
    let whole : inner ++ 93 ∷ bytes ≡ part ++ rest = ap (λ (x : List ℕ). x ++ 93 ∷ bytes) spelled ∙ front in
    ap (λ (x : List ℕ). accepts x (white ∷ item r ∷ stack)) whole
    ∙ first_item r Is t part rest stack p
    ∙ ap (λ (x : List ℕ). accepts x (white ∷ value r ∷ white ∷ items r ∷ stack)) (sym front)
    ∙ items_run r Is t part parts bytes stack p others

-- ---- members

pub name_run : (part bytes : List ℕ) (stack : List Due) → Padded IsQuoted part →
    accepts (part ++ 58 ∷ bytes) (white ∷ byte 34 ∷ chars ∷ white ∷ byte 58 ∷ stack) ≡ accepts bytes stack
name_run part bytes stack p =
    let end = p.behind ++ 58 ∷ bytes in
    let start = p.text ++ end in
    let (rest, spelled, run) = quoted_chars p.text end (white ∷ byte 58 ∷ stack) p.is_text in
    ap (λ (x : List ℕ). accepts x (white ∷ byte 34 ∷ chars ∷ white ∷ byte 58 ∷ stack))
    (ap (λ (x : List ℕ). x ++ 58 ∷ bytes) p.spelled ∙ regroup p.before p.text p.behind (58 ∷ bytes))
    ∙ white_run p.before start (byte 34 ∷ chars ∷ white ∷ byte 58 ∷ stack) p.white_before
    ∙ ap (λ (x : List ℕ). accepts x (white ∷ byte 34 ∷ chars ∷ white ∷ byte 58 ∷ stack)) spelled
    ∙ white_skip (34 ∷ rest) (byte 34 ∷ chars ∷ white ∷ byte 58 ∷ stack) refl
    ∙ byte_run 34 rest (chars ∷ white ∷ byte 58 ∷ stack)
    ∙ run
    ∙ white_run p.behind (58 ∷ bytes) (byte 58 ∷ stack) p.white_behind
    ∙ white_skip (58 ∷ bytes) (byte 58 ∷ stack) refl
    ∙ byte_run 58 bytes stack

pub pair_run : (r : ℕ) (Is : List ℕ → Type 0) → Taken r Is → (part bytes : List ℕ) (stack : List Due) → IsPair Is part →
    ends_value bytes ≡ true →
    accepts (part ++ bytes) (white ∷ byte 34 ∷ chars ∷ named r ++ stack) ≡ accepts bytes (white ∷ members r ∷ stack)
pair_run r Is t part bytes stack (name, inner, is_name, is_inner, spelled) e =
    ap (λ (x : List ℕ). accepts x (white ∷ byte 34 ∷ chars ∷ named r ++ stack))
    (ap (λ (x : List ℕ). x ++ bytes) spelled ∙ append_assoc name (58 ∷ inner) bytes)
    ∙ name_run name (inner ++ bytes) (white ∷ value r ∷ white ∷ members r ∷ stack) is_name
    ∙ padded_run r Is t inner bytes (members r ∷ stack) is_inner e

pub next_member : (r : ℕ) (Is : List ℕ → Type 0) → Taken r Is → (part bytes : List ℕ) (stack : List Due) →
    IsPair Is part →
    accepts (part ++ 44 ∷ bytes) (white ∷ byte 34 ∷ chars ∷ named r ++ stack) ≡ accepts
    bytes (white ∷ byte 34 ∷ chars ∷ named r ++ stack)
next_member r Is t part bytes stack p =
    pair_run r Is t part (44 ∷ bytes) stack p refl
    ∙ white_skip (44 ∷ bytes) (members r ∷ stack) refl
    ∙ taken (members r) 44 (white ∷ byte 34 ∷ chars ∷ named r) bytes stack refl

members_run : (r : ℕ) (Is : List ℕ → Type 0) → Taken r Is → (part : List ℕ) (parts : List (List ℕ)) (bytes : List ℕ)
    (stack : List Due) →
    IsPair Is part → Every (IsPair Is) parts →
    accepts (joined (part ∷ parts) ++ 125 ∷ bytes) (white ∷ byte 34 ∷ chars ∷ named r ++ stack) ≡ accepts bytes stack
members_run r Is t part [] bytes stack p others =
    pair_run r Is t part (125 ∷ bytes) stack p refl ∙ white_skip (125 ∷ bytes) (members r ∷ stack) refl
    ∙ taken (members r) 125 [] bytes stack refl
members_run r Is t part (next ∷ parts) bytes stack p others =
    ap (λ (x : List ℕ). accepts x (white ∷ byte 34 ∷ chars ∷ named r ++ stack))
    (append_assoc part (44 ∷ joined (next ∷ parts)) (125 ∷ bytes))
    ∙ next_member r Is t part (joined (next ∷ parts) ++ 125 ∷ bytes) stack p
    ∙ members_run r Is t next parts bytes stack others.0 others.1

pub member_opens : (r : ℕ) (bytes : List ℕ) (stack : List Due) →
    accepts (34 ∷ bytes) (member r ∷ stack) ≡ accepts (34 ∷ bytes) (byte 34 ∷ chars ∷ named r ++ stack)
member_opens r bytes stack = taken (member r) 34 (chars ∷ named r) bytes stack refl
    ∙ sym (byte_run 34 bytes (chars ∷ named r ++ stack))

pub first_name : (r : ℕ) (name bytes : List ℕ) (stack : List Due) → Padded IsQuoted name →
    accepts (name ++ bytes) (white ∷ member r ∷ stack) ≡ accepts (name ++ bytes)
    (white ∷ byte 34 ∷ chars ∷ named r ++ stack)
first_name r name bytes stack p =
    let end = p.behind ++ bytes in
    let (rest, opens, run) = quoted_chars p.text end stack p.is_text in
    let whole : name ++ bytes ≡ p.before ++ 34 ∷ rest =
    ap (λ (x : List ℕ). x ++ bytes) p.spelled ∙ regroup p.before p.text p.behind bytes
    ∙ ap (λ (x : List ℕ). p.before ++ x) opens in
    ap (λ (x : List ℕ). accepts x (white ∷ member r ∷ stack)) whole
    ∙ white_run p.before (34 ∷ rest) (member r ∷ stack) p.white_before
    ∙ white_skip (34 ∷ rest) (member r ∷ stack) refl
    ∙ member_opens r rest stack
    ∙ sym (white_skip (34 ∷ rest) (byte 34 ∷ chars ∷ named r ++ stack) refl)
    ∙ sym (white_run p.before (34 ∷ rest) (byte 34 ∷ chars ∷ named r ++ stack) p.white_before)
    ∙ ap (λ (x : List ℕ). accepts x (white ∷ byte 34 ∷ chars ∷ named r ++ stack)) (sym whole)

pub first_member : (r : ℕ) (Is : List ℕ → Type 0) (part bytes : List ℕ) (stack : List Due) → IsPair Is part →
    accepts (part ++ bytes) (white ∷ member r ∷ stack) ≡ accepts (part ++ bytes)
    (white ∷ byte 34 ∷ chars ∷ named r ++ stack)
first_member r Is part bytes stack (name, inner, p, is_inner, spelled) =
    let whole : part ++ bytes ≡ name ++ (58 ∷ inner ++ bytes) = ap (λ (x : List ℕ). x ++ bytes) spelled
    ∙ append_assoc name (58 ∷ inner) bytes in
    ap (λ (x : List ℕ). accepts x (white ∷ member r ∷ stack)) whole
    ∙ first_name r name (58 ∷ inner ++ bytes) stack p
    ∙ ap (λ (x : List ℕ). accepts x (white ∷ byte 34 ∷ chars ∷ named r ++ stack)) (sym whole)

object_run : (r : ℕ) (Is : List ℕ → Type 0) → Taken r Is → (inner bytes : List ℕ) (stack : List Due) →
    AreParts (IsPair Is) inner →
    accepts (inner ++ 125 ∷ bytes) (white ∷ member r ∷ stack) ≡ accepts bytes stack
object_run r Is t inner bytes stack (inl w) = white_run inner (125 ∷ bytes) (member r ∷ stack) w
    ∙ white_skip (125 ∷ bytes) (member r ∷ stack) refl ∙ taken (member r) 125 [] bytes stack refl
object_run r Is t inner bytes stack (inr (part, parts, p, others, spelled)) =
    let (rest, front) = front_part part parts (125 ∷ bytes) in
    let whole : inner ++ 125 ∷ bytes ≡ part ++ rest = ap (λ (x : List ℕ). x ++ 125 ∷ bytes) spelled ∙ front in
    ap (λ (x : List ℕ). accepts x (white ∷ member r ∷ stack)) whole
    ∙ first_member r Is part rest stack p
    ∙ ap (λ (x : List ℕ). accepts x (white ∷ byte 34 ∷ chars ∷ named r ++ stack)) (sym front)
    ∙ members_run r Is t part parts bytes stack p others

-- ---- values by how many enclose each other

pub value_taken : (depth r : ℕ) → depth ≤ r → Taken r (IsSpelled depth)
unfolding IsSpelled
value_taken zero r le = record {
  opens = plain_opens;
  runs = λ text bytes stack is e. plain_run r text bytes stack is e;
}
value_taken (suc depth) zero le = absurd (omega arith)
value_taken (suc depth) (suc r) le =
    let t = value_taken depth r (omega arith) in
    record {
      opens = λ text is. nested_opens text is;
      runs = λ text bytes stack is e. nested_run t text bytes stack is e;
    }
  where
    nested_opens : (text : List ℕ) → IsSpelled (suc depth) text → Opens text
    nested_opens text (inl is) = plain_opens text is
    nested_opens text (inr (inl (inner, is, spelled))) =
        record { byte = 91; others = inner ++ 93 ∷ []; is = spelled; known = λ z. cc }
    nested_opens text (inr (inr (inner, is, spelled))) =
        record { byte = 123; others = inner ++ 125 ∷ []; is = spelled; known = λ z. cc }

    nested_run : Taken r (IsSpelled depth) → (text bytes : List ℕ) (stack : List Due) → IsSpelled (suc depth) text →
        Fits text bytes →
        accepts (text ++ bytes) (value (suc r) ∷ stack) ≡ accepts bytes stack
    nested_run t text bytes stack (inl is) e = plain_run (suc r) text bytes stack is e
    nested_run t text bytes stack (inr (inl (inner, is, spelled))) e =
        let whole : text ++ bytes ≡ 91 ∷ (inner ++ 93 ∷ bytes) = ap (λ (x : List ℕ). x ++ bytes) spelled
        ∙ ap (λ (x : List ℕ). 91 ∷ x) (append_assoc inner (93 ∷ []) bytes) in
        ap (λ (x : List ℕ). accepts x (value (suc r) ∷ stack)) whole
        ∙ taken (value (suc r)) 91 (white ∷ item r ∷ []) (inner ++ 93 ∷ bytes) stack refl
        ∙ array_run r (IsSpelled depth) t inner bytes stack is
    nested_run t text bytes stack (inr (inr (inner, is, spelled))) e =
        let whole : text ++ bytes ≡ 123 ∷ (inner ++ 125 ∷ bytes) = ap (λ (x : List ℕ). x ++ bytes) spelled
        ∙ ap (λ (x : List ℕ). 123 ∷ x) (append_assoc inner (125 ∷ []) bytes) in
        ap (λ (x : List ℕ). accepts x (value (suc r) ∷ stack)) whole
        ∙ taken (value (suc r)) 123 (white ∷ member r ∷ []) (inner ++ 125 ∷ bytes) stack refl
        ∙ object_run r (IsSpelled depth) t inner bytes stack is

-- a text of the grammar is taken whole
pub text_taken : (depth r : ℕ) → depth ≤ r → (bytes : List ℕ) → Padded (IsSpelled depth) bytes →
    accepts bytes (white ∷ value r ∷ white ∷ stop ∷ []) ≡ true
text_taken depth r le bytes p =
    ap (λ (x : List ℕ). accepts x (white ∷ value r ∷ white ∷ stop ∷ [])) (sym (append-nil bytes))
    ∙ padded_run r (IsSpelled depth) (value_taken depth r le) bytes [] (stop ∷ []) p refl
    ∙ ended white (stop ∷ []) refl
    ∙ ended stop [] refl
    ∙ nothing_due

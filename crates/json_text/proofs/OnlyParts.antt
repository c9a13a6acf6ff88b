-- An item or a member of the grammar is read as what it is.
use Rattle.std.proofs.Common.{◌≡◌, ℕ, ◌<◌, ◌==◌, Bool, true, false, cond, List, [], ◌∷◌, ◌++◌, length, drop, Option, Some, None, Ok, refl, sym, ap, subst, ◌∙◌, append_assoc, arith}
use Rattle.std.proofs.lemmas.Bool.{eq-eqb}
use Rattle.std.proofs.lemmas.List.{length-append}
use Rattle.std.specs.List.{list_all}
use Rattle.std.specs.Str.{IsUtf8}
use Rattle.doc_model.specs.declared.node.Node.{Node}
use Rattle.json_text.specs.declared.lead.Lead.TheVariants as lead
use Rattle.json_text.specs.Strings.{IsString}
use Rattle.json_text.specs.Grammar.{is_white, IsWhite, Padded, Each, joined, Listed, Member, IsMember}
use Rattle.json_text.specs.Reading.{Read, strip, byte_at, behind_white, repeated, text_at, lead_by, separator_at, item_at, name_at, member_at, unless_closed, items_at, members_at}
use Rattle.json_text.proofs.Fronts.{white_utf8}
use Rattle.json_text.proofs.Spelled.{stops, white_skipped, strip_here, byte_here, cut_behind, cut_after, Taken, last, more, taken_ok, ends_value}
use Rattle.json_text.proofs.OnlyStrings.{string_here}
use Rattle.json_text.proofs.OnlyNumbers.{two_parts}
use Rattle.json_text.proofs.OnlyScalars.{Opens, closing_gone, opens_stops, string_opens}

separator_here : (closing : ℕ) (again : Bool) (rest : List ℕ) → (closing == 44) ≡ false →
    separator_at closing (cond again 44 closing ∷ rest) ≡ Ok (again, rest)
unfolding separator_at
separator_here closing true rest n = refl
separator_here closing false rest n = rw (n, eq-eqb closing closing refl) refl

-- each part is read by a step, and none begins with the bracket that closes
pub record StepReads {Y : Type 0} (step : List ℕ → Read (List Y × Bool)) (IsPart : List ℕ → Y → Type 0)
    (closing : ℕ) : Type 0 where
  pub small : closing < 128
  pub opens : (part : List ℕ) (y : Y) (tail : List ℕ) → IsPart part y →
      strip closing (behind_white (part ++ tail)) ≡ None
  pub stops : stops is_white (closing ∷ []) ≡ true
  pub reads : (part : List ℕ) (y : Y) (again : Bool) (rest : List ℕ) → IsPart part y →
      IsUtf8 (part ++ cond again 44 closing ∷ rest) →
      step (part ++ cond again 44 closing ∷ rest) ≡ Ok ((y ∷ [], again), rest)

shorter : (part : List ℕ) (b : ℕ) (rest : List ℕ) → length rest < length (part ++ b ∷ rest)
shorter part b rest = let l = length-append part (b ∷ rest) in omega arith

parts_taken : {Y : Type 0} (step : List ℕ → Read (List Y × Bool)) (IsPart : List ℕ → Y → Type 0) (closing : ℕ) →
    StepReads step IsPart closing →
    (part : List ℕ) (parts : List (List ℕ)) (v : Y) (vs : List Y) (rest : List ℕ) → IsPart part v →
    Each IsPart parts vs →
    IsUtf8 (joined (part ∷ parts) ++ closing ∷ rest) →
    Taken step (joined (part ∷ parts) ++ closing ∷ rest) (v ∷ vs) rest
parts_taken {Y = Y} step IsPart closing s part [] v [] rest is others u =
    last (part ++ closing ∷ rest) (v ∷ []) rest (s.reads part v false rest is u) (shorter part closing rest)
parts_taken {Y = Y} step IsPart closing s part [] v (w ∷ ws) rest is others u = absurd others
parts_taken {Y = Y} step IsPart closing s part (p ∷ ps) v [] rest is others u = absurd others
parts_taken {Y = Y} step IsPart closing s part (p ∷ ps) v (w ∷ ws) rest is others u =
    let next = joined (p ∷ ps) ++ closing ∷ rest in
    let same : joined (part ∷ p ∷ ps) ++ closing ∷ rest ≡ part ++ 44 ∷ next = append_assoc part (44 ∷ joined (p ∷ ps))
    (closing ∷ rest) in
    let valid : IsUtf8 (part ++ 44 ∷ next) = subst IsUtf8 same u in
    subst (λ (x : List ℕ). Taken step x (v ∷ w ∷ ws) rest) (sym same)
    (more (part ++ 44 ∷ next) (v ∷ []) next (w ∷ ws) rest (s.reads part v true next is valid) (shorter part 44 next)
    (parts_taken step IsPart closing s p ps w ws rest others.0 others.1 (cut_after part 44 next (omega arith) valid)))

joined_opens : {Y : Type 0} (step : List ℕ → Read (List Y × Bool)) (IsPart : List ℕ → Y → Type 0) (closing : ℕ) →
    StepReads step IsPart closing →
    (part : List ℕ) (parts : List (List ℕ)) (v : Y) (tail : List ℕ) → IsPart part v →
    strip closing (behind_white (joined (part ∷ parts) ++ tail)) ≡ None
joined_opens {Y = Y} step IsPart closing s part [] v tail is = s.opens part v tail is
joined_opens {Y = Y} step IsPart closing s part (p ∷ ps) v tail is = rw (append_assoc part (44 ∷ joined (p ∷ ps)) tail)
    (s.opens part v (44 ∷ joined (p ∷ ps) ++ tail) is)

unless_none : {Y : Type 0} (others : Read (List Y)) (o : Option (List ℕ)) → o ≡ None → unless_closed others o ≡ others
unless_none {Y = Y} others o e = rw e refl

listed_here : {Y : Type 0} (step : List ℕ → Read (List Y × Bool)) (IsPart : List ℕ → Y → Type 0) (closing : ℕ) →
    StepReads step IsPart closing →
    (inner : List ℕ) (ys : List Y) (rest : List ℕ) → Listed IsPart inner ys → IsUtf8 (inner ++ closing ∷ rest) →
    unless_closed (repeated step (length (inner ++ closing ∷ rest)) (inner ++ closing ∷ rest))
    (strip closing (behind_white (inner ++ closing ∷ rest))) ≡ Ok (ys, rest)
listed_here {Y = Y} step IsPart closing s inner [] rest white u =
    ap (λ (o : Option (List ℕ)). unless_closed (repeated step (length (inner ++ closing ∷ rest))
    (inner ++ closing ∷ rest)) o)
    (ap (λ (x : List ℕ). strip closing x) (white_skipped inner (closing ∷ rest) white s.stops)
    ∙ strip_here closing rest)
listed_here {Y = Y} step IsPart closing s inner (v ∷ vs) rest ([], each, spelled) u = absurd each
listed_here {Y = Y} step IsPart closing s inner (v ∷ vs) rest (part ∷ parts, each, spelled) u =
    let bytes = joined (part ∷ parts) ++ closing ∷ rest in
    let valid : IsUtf8 bytes = subst (λ (x : List ℕ). IsUtf8 (x ++ closing ∷ rest)) spelled u in
    rw spelled
    (unless_none (repeated step (length bytes) bytes) (strip closing (behind_white bytes))
    (joined_opens step IsPart closing s part parts v (closing ∷ rest) each.0)
    ∙ taken_ok step bytes (v ∷ vs) rest (parts_taken step IsPart closing s part parts v vs rest each.0 each.1 valid)
    (length bytes) (omega arith))

-- ---- values between white space

-- a text of that is read by this, and begins as a value does
pub record ReadsBack (value : List ℕ → Read Node) (IsText : List ℕ → Node → Type 0) : Type 0 where
  pub opens : (text : List ℕ) (v : Node) → IsText text v → Opens text
  pub reads : (text : List ℕ) (v : Node) (rest : List ℕ) → IsText text v → IsUtf8 (text ++ rest) →
      ends_value rest ≡ true → value (text ++ rest) ≡ Ok (v, rest)

pub white_ends : (white tail : List ℕ) → IsWhite white → ends_value tail ≡ true → ends_value (white ++ tail) ≡ true
white_ends [] tail w e = e
white_ends (b ∷ white) tail w e = let p = two_parts (is_white b) (list_all is_white white) w in rw p.0 refl

pub record PaddedRead (value : List ℕ → Read Node) (bytes : List ℕ) (v : Node) (tail : List ℕ) : Type 0 where
  pub start : List ℕ
  pub end : List ℕ
  pub starts : behind_white bytes ≡ start
  pub reads : value start ≡ Ok (v, end)
  pub ends : behind_white end ≡ tail

regroup : (a b c tail : List ℕ) → a ++ b ++ c ++ tail ≡ a ++ (b ++ (c ++ tail))
regroup a b c tail = simp append_assoc

pub padded_here : (value : List ℕ → Read Node) (IsText : List ℕ → Node → Type 0) → ReadsBack value IsText →
    (part : List ℕ) (v : Node) (tail : List ℕ) →
    Padded (λ text. IsText text v) part → IsUtf8 (part ++ tail) → ends_value tail ≡ true → stops is_white tail ≡ true →
    PaddedRead value (part ++ tail) v tail
padded_here value IsText back part v tail p u e s =
    let end = p.behind ++ tail in
    let start = p.text ++ end in
    let whole : part ++ tail ≡ p.before ++ start = ap (λ (x : List ℕ). x ++ tail) p.spelled
    ∙ regroup p.before p.text p.behind tail in
    let valid : IsUtf8 start = cut_behind p.before start (subst IsUtf8 whole u) (white_utf8 p.before p.white_before) in
    record {
      start = start;
      end = end;
      starts = ap (λ (x : List ℕ). behind_white x) whole ∙ white_skipped p.before start p.white_before
          (opens_stops p.text end (back.opens p.text v p.is_text));
      reads = back.reads p.text v end p.is_text valid (white_ends p.behind tail p.white_behind e);
      ends = white_skipped p.behind tail p.white_behind s;
    }

padded_opens : (closing : ℕ) (IsText : List ℕ → Type 0) (part tail : List ℕ) → lead_by closing ≡ lead.Other →
    ((text : List ℕ) → IsText text → Opens text) → Padded IsText part →
    strip closing (behind_white (part ++ tail)) ≡ None
padded_opens closing IsText part tail c opens p =
    let start = p.text ++ (p.behind ++ tail) in
    let o = opens p.text p.is_text in
    let whole : part ++ tail ≡ p.before ++ start = ap (λ (x : List ℕ). x ++ tail) p.spelled
    ∙ regroup p.before p.text p.behind tail in
    ap (λ (x : List ℕ). strip closing (behind_white x)) whole
    ∙ ap (λ (x : List ℕ). strip closing x)
    (white_skipped p.before start p.white_before (opens_stops p.text (p.behind ++ tail) o))
    ∙ closing_gone closing p.text (p.behind ++ tail) c o

-- ---- items

item_as : (value : List ℕ → Read Node) (bytes start : List ℕ) (v : Node) (end tail : List ℕ) (again : Bool)
    (rest : List ℕ) →
    behind_white bytes ≡ start → value start ≡ Ok (v, end) → behind_white end ≡ tail →
    separator_at 93 tail ≡ Ok (again, rest) → item_at value bytes ≡ Ok ((v ∷ [], again), rest)
unfolding item_at
item_as value bytes start v end tail again rest a b c d = rw (a, b, c, d) refl

comma_ends : (closing : ℕ) (again : Bool) (rest : List ℕ) → ends_value (closing ∷ []) ≡ true →
    ends_value (cond again 44 closing ∷ rest) ≡ true
comma_ends closing true rest e = refl
comma_ends closing false rest e = e

comma_stops : (closing : ℕ) (again : Bool) (rest : List ℕ) → stops is_white (closing ∷ []) ≡ true →
    stops is_white (cond again 44 closing ∷ rest) ≡ true
comma_stops closing true rest e = refl
comma_stops closing false rest e = e

item_here : (value : List ℕ → Read Node) (IsText : List ℕ → Node → Type 0) → ReadsBack value IsText →
    StepReads (item_at value) (λ part item. Padded (λ text. IsText text item) part) 93
item_here value IsText back = record {
  small = omega arith;
  opens = λ part y tail p. padded_opens 93 (λ text. IsText text y) part tail refl (λ text is. back.opens text y is) p;
  stops = refl;
  reads = λ part y again rest p u.
      let r = padded_here value IsText back part y (cond again 44 93 ∷ rest) p u (comma_ends 93 again rest refl)
      (comma_stops 93 again rest refl) in
      item_as value (part ++ cond again 44 93 ∷ rest) r.start y r.end (cond again 44 93 ∷ rest) again rest r.starts
      r.reads r.ends (separator_here 93 again rest refl);
}

-- ---- members

name_as : (bytes text name end tail : List ℕ) → byte_at 34 bytes ≡ Ok text → text_at text ≡ Ok (name, end) →
    behind_white end ≡ 58 ∷ tail →
    name_at bytes ≡ Ok (name, tail)
unfolding name_at
name_as bytes text name end tail b t w = rw (b, t, w) refl

-- a name between white space, and a colon
name_here : (part name tail : List ℕ) → Padded (λ text. IsString text (Some name)) part → IsUtf8 (part ++ 58 ∷ tail) →
    name_at (behind_white (part ++ 58 ∷ tail)) ≡ Ok (name, tail)
name_here part name tail p u =
    let end = p.behind ++ 58 ∷ tail in
    let start = p.text ++ end in
    let whole : part ++ 58 ∷ tail ≡ p.before ++ start = ap (λ (x : List ℕ). x ++ 58 ∷ tail) p.spelled
    ∙ regroup p.before p.text p.behind (58 ∷ tail) in
    let valid : IsUtf8 start = cut_behind p.before start (subst IsUtf8 whole u) (white_utf8 p.before p.white_before) in
    let s = string_here p.text name end p.is_text valid in
    let at : behind_white (part ++ 58 ∷ tail) ≡ start = ap (λ (x : List ℕ). behind_white x) whole
    ∙ white_skipped p.before start p.white_before (opens_stops p.text end (string_opens p.text name p.is_text)) in
    ap (λ (x : List ℕ). name_at x) at
    ∙ name_as start (drop 1 start) name end tail (ap (λ (x : List ℕ). byte_at 34 x) s.0 ∙ byte_here 34 (drop 1 start))
    s.1 (white_skipped p.behind (58 ∷ tail) p.white_behind refl)

member_as : (value : List ℕ → Read Node) (bytes name inner start : List ℕ) (v : Node) (end tail : List ℕ) (again : Bool)
    (rest : List ℕ) →
    name_at (behind_white bytes) ≡ Ok (name, inner) →
    behind_white inner ≡ start → value start ≡ Ok (v, end) → behind_white end ≡ tail →
    separator_at 125 tail ≡ Ok (again, rest) → member_at value bytes ≡ Ok (((name, v) ∷ [], again), rest)
unfolding member_at
member_as value bytes name inner start v end tail again rest n a b c d = rw (n, a, b, c, d) refl

member_read : (value : List ℕ → Read Node) (IsText : List ℕ → Node → Type 0) → ReadsBack value IsText →
    (part : List ℕ) (y : Member) (again : Bool) (rest : List ℕ) → IsMember IsText part y →
    IsUtf8 (part ++ cond again 44 125 ∷ rest) →
    member_at value (part ++ cond again 44 125 ∷ rest) ≡ Ok ((y ∷ [], again), rest)
member_read value IsText back part y again rest (name, inner, is_name, is_inner, spelled) u =
    let tail = cond again 44 125 ∷ rest in
    let whole : part ++ tail ≡ name ++ 58 ∷ (inner ++ tail) = ap (λ (x : List ℕ). x ++ tail) spelled
    ∙ append_assoc name (58 ∷ inner) tail in
    let valid : IsUtf8 (name ++ 58 ∷ (inner ++ tail)) = subst IsUtf8 whole u in
    let n = name_here name y.0 (inner ++ tail) is_name valid in
    let r = padded_here value IsText back inner y.1 tail is_inner (cut_after name 58 (inner ++ tail)
    (omega arith) valid) (comma_ends 125 again rest refl) (comma_stops 125 again rest refl) in
    ap (λ (x : List ℕ). member_at value x) whole
    ∙ member_as value (name ++ 58 ∷ (inner ++ tail)) y.0 (inner ++ tail) r.start y.1 r.end tail again rest n r.starts
    r.reads r.ends (separator_here 125 again rest refl)

member_opens : (IsText : List ℕ → Node → Type 0) (part : List ℕ) (y : Member) (tail : List ℕ) → IsMember IsText part y →
    strip 125 (behind_white (part ++ tail)) ≡ None
member_opens IsText part y tail (name, inner, is_name, is_inner, spelled) =
    ap (λ (x : List ℕ). strip 125 (behind_white x))
    (ap (λ (x : List ℕ). x ++ tail) spelled ∙ append_assoc name (58 ∷ inner) tail)
    ∙ padded_opens 125 (λ text. IsString text (Some y.0)) name (58 ∷ inner ++ tail)
    refl (λ text is. string_opens text y.0 is) is_name

member_here : (value : List ℕ → Read Node) (IsText : List ℕ → Node → Type 0) → ReadsBack value IsText →
    StepReads (member_at value) (IsMember IsText) 125
member_here value IsText back =
    record { small = omega arith; opens = member_opens IsText; stops = refl; reads = member_read value IsText back }

pub items_here : (value : List ℕ → Read Node) (IsText : List ℕ → Node → Type 0) → ReadsBack value IsText →
    (inner : List ℕ) (items : List Node) (rest : List ℕ) →
    Listed (λ part item. Padded (λ text. IsText text item) part) inner items → IsUtf8 (inner ++ 93 ∷ rest) →
    items_at value (inner ++ 93 ∷ rest) ≡ Ok (items, rest)
unfolding items_at
items_here value IsText back inner items rest is u =
    listed_here (item_at value) (λ part item. Padded (λ text. IsText text item) part) 93 (item_here value IsText back)
    inner items rest is u

pub members_here : (value : List ℕ → Read Node) (IsText : List ℕ → Node → Type 0) → ReadsBack value IsText →
    (inner : List ℕ) (members : List Member) (rest : List ℕ) →
    Listed (IsMember IsText) inner members → IsUtf8 (inner ++ 125 ∷ rest) →
    members_at value (inner ++ 125 ∷ rest) ≡ Ok (members, rest)
unfolding members_at
members_here value IsText back inner members rest is u =
    listed_here (member_at value) (IsMember IsText) 125 (member_here value IsText back) inner members rest is u

-- Steps of the loops over items and members.
use Rattle.std.proofs.Common.{◌≡◌, ℕ, suc, ◌+◌, ◌<◌, ◌≤◌, List, [], ◌∷◌, ◌++◌, drop, length, get_or, sum_by, Option, Some, None, Result, Ok, Err, sym, ap, subst, ◌∙◌, add-one, append_assoc}
use Rattle.std.proofs.Math.Seq.{drop-cons}
use denote.Param.Weighed.{at_most, most}
use Rattle.std.proofs.lemmas.List.{append-nil, drop_all}
use Rattle.std.proofs.lemmas.List.Sums.{sum_by-cons}
use Rattle.std.specs.Option.{option_map, option_to_list}
use Rattle.doc_model.specs.declared.node.Node.{Node}
use Rattle.doc_model.specs.declared.query.Query.{Query}
use Rattle.json_text.specs.Grammar.{Member}
use Rattle.cts_meaning.specs.Shapes.{item_parts, member_parts, ShapedNode}
use Rattle.cts_meaning.specs.declared.shape.Shape.{Shape}
use Rattle.cts_text.specs.Judging.{Judges, JudgesParts}
use Rattle.cts_text.specs.Saids.{AreSaid, IsSaid}
use Rattle.cts_text.proofs.Told.{cons_said, none_said}
use Rattle.cts_text.proofs.Walk.{judged_more, judged_none, judged_stop}

-- the next element is before the others, in a list and in the slice of it that a loop goes over
pub drop_step : {X : Type 0} (xs slice : List X) (i : ℕ) (x : X) → slice ≡ xs → i < length slice →
    x ≡ get_or slice i x →
    drop i xs ≡ x ∷ drop (i + 1) xs
drop_step {X} xs slice i x same lt is =
    let within = subst (λ (ys : List X). i < length ys) same lt in
    drop-cons xs i x within
    ∙ ap (λ (y : X). y ∷ drop (suc i) xs) (sym (is ∙ ap (λ (ys : List X). get_or ys i x) same))
    ∙ ap (λ (j : ℕ). x ∷ drop j xs) (sym (add-one i))

pub drop_end : {X : Type 0} (xs slice : List X) (i : ℕ) → slice ≡ xs → length slice ≤ i → drop i xs ≡ []
drop_end {X} xs slice i same le = drop_all i xs (subst (λ (ys : List X). length ys ≤ i) same le)

pub sum_step : {X : Type 0} (count : X → ℕ) (xs slice : List X) (i : ℕ) (x : X) → slice ≡ xs → i < length slice →
    x ≡ get_or slice i x → sum_by count (drop i xs) ≡ count x + sum_by count (drop (i + 1) xs)
sum_step count xs slice i x same lt is =
    ap (sum_by count) (drop_step xs slice i x same lt is) ∙ sum_by-cons count x (drop (i + 1) xs)

-- an element weighs no more than the heaviest
pub weight_within : {X : Type 0} (weight : X → ℕ) (xs slice : List X) (i : ℕ) (x : X) → slice ≡ xs → i < length slice →
    x ≡ get_or slice i x → weight x ≤ most weight xs
weight_within {X} weight xs slice i x same lt is =
    subst (λ (ys : List X). weight x ≤ most weight ys) same
    (subst (λ (y : X). weight y ≤ most weight slice) (sym is) (at_most weight slice i x lt))

-- what the rest of the parts gives is what all of them give
abbrev pub Goes : List ShapedNode → ℕ → List ShapedNode → ℕ → Type 0
Goes rest next all number = (answer : Result ℕ ℕ) → JudgesParts rest next answer → JudgesParts all number answer

goes_more : (part : ShapedNode) (rest parts all : List ShapedNode) (next later number : ℕ) → parts ≡ part ∷ rest →
    Goes parts next all number → Judges part.0 part.1 next (Ok later) → Goes rest later all number
goes_more part rest parts all next later number is goes one answer more =
    goes answer (subst (λ (ps : List ShapedNode). JudgesParts ps next answer) (sym is)
    (judged_more part rest next later answer one more))

goes_stop : (part : ShapedNode) (rest parts all : List ShapedNode) (next faulty number : ℕ) → parts ≡ part ∷ rest →
    Goes parts next all number → Judges part.0 part.1 next (Err faulty) → JudgesParts all number (Err faulty)
goes_stop part rest parts all next faulty number is goes one =
    goes (Err faulty) (subst (λ (ps : List ShapedNode). JudgesParts ps next (Err faulty)) (sym is)
    (judged_stop part rest next faulty one))

pub goes_end : (parts all : List ShapedNode) (next number : ℕ) → parts ≡ [] → Goes parts next all number →
    JudgesParts all number (Ok next)
goes_end parts all next number is goes =
    goes (Ok next) (subst (λ (ps : List ShapedNode). JudgesParts ps next (Ok next)) (sym is) (judged_none next))

-- ---- items

module _ (wanted : Shape) (items slice : List Node) (i : ℕ) (item : Node) (next number : ℕ) (same : slice ≡ items)
    (lt : i < length slice) (is : item ≡ get_or slice i item)
    (goes : Goes (item_parts wanted (drop i items)) next (item_parts wanted items) number) where
  split : item_parts wanted (drop i items) ≡ (wanted, item) ∷ item_parts wanted (drop (i + 1) items)
  split = ap (item_parts wanted) (drop_step items slice i item same lt is)

  pub items_more : (later : ℕ) → Judges wanted item next (Ok later) →
      Goes (item_parts wanted (drop (i + 1) items)) later (item_parts wanted items) number
  items_more later one = goes_more (wanted, item) (item_parts wanted (drop (i + 1) items))
      (item_parts wanted (drop i items)) (item_parts wanted items) next later number split goes one

  pub items_stop : (faulty : ℕ) → Judges wanted item next (Err faulty) →
      JudgesParts (item_parts wanted items) number (Err faulty)
  items_stop faulty one = goes_stop (wanted, item) (item_parts wanted (drop (i + 1) items))
      (item_parts wanted (drop i items)) (item_parts wanted items) next faulty number split goes one

-- ---- members

module _ (asked : List ℕ → Option Shape) (members slice : List Member) (i : ℕ) (member : Member) (next number : ℕ)
    (same : slice ≡ members) (lt : i < length slice) (is : member ≡ get_or slice i member)
    (goes : Goes (member_parts asked (drop i members)) next (member_parts asked members) number) where
  abbrev parts_with : Option Shape → List ShapedNode
  parts_with o = option_to_list (option_map (λ part. (part, member.1)) o) ++ member_parts asked (drop (i + 1) members)

  split_member : (o : Option Shape) → asked member.0 ≡ o →
      member_parts asked (drop i members) ≡ parts_with o
  split_member o e = ap (member_parts asked) (drop_step members slice i member same lt is) ∙ ap parts_with e

  pub members_skip : asked member.0 ≡ None →
      Goes (member_parts asked (drop (i + 1) members)) next (member_parts asked members) number
  members_skip e answer more =
      goes answer (subst (λ (ps : List ShapedNode). JudgesParts ps next answer) (sym (split_member None e)) more)

  pub members_more : (part : Shape) (later : ℕ) → asked member.0 ≡ Some part →
      Judges part member.1 next (Ok later) →
      Goes (member_parts asked (drop (i + 1) members)) later (member_parts asked members) number
  members_more part later e one = goes_more (part, member.1) (member_parts asked (drop (i + 1) members))
      (member_parts asked (drop i members)) (member_parts asked members) next later number
      (split_member (Some part) e) goes one

  pub members_stop : (part : Shape) (faulty : ℕ) → asked member.0 ≡ Some part →
      Judges part member.1 next (Err faulty) → JudgesParts (member_parts asked members) number (Err faulty)
  members_stop part faulty e one = goes_stop (part, member.1) (member_parts asked (drop (i + 1) members))
      (member_parts asked (drop i members)) (member_parts asked members) next faulty number
      (split_member (Some part) e) goes one

-- ---- queries

-- what the rest of the items says with the queries so far is what all of them say
abbrev pub SaysWith : List Node → List Query → List Node → Type 0
SaysWith rest queries items = (more : List Query) → AreSaid rest more → AreSaid items (queries ++ more)

pub said_more : (items slice : List Node) (i : ℕ) (item : Node) (queries : List Query) (q : Query) → slice ≡ items →
    i < length slice → item ≡ get_or slice i item → SaysWith (drop i items) queries items → IsSaid item q →
    SaysWith (drop (i + 1) items) (queries ++ q ∷ []) items
said_more items slice i item queries q same lt is with_all said more are =
    subst (AreSaid items) (sym (append_assoc queries (q ∷ []) more))
    (with_all (q ∷ more)
    (subst (λ (ns : List Node). AreSaid ns (q ∷ more)) (sym (drop_step items slice i item same lt is))
    (cons_said item (drop (i + 1) items) q more said are)))

pub said_end : (items slice : List Node) (i : ℕ) (queries : List Query) → slice ≡ items → length slice ≤ i →
    SaysWith (drop i items) queries items → AreSaid items queries
said_end items slice i queries same le with_all =
    subst (AreSaid items) (append-nil queries)
    (with_all [] (subst (λ (ns : List Node). AreSaid ns []) (sym (drop_end items slice i same le)) none_said))

-- Faults lie in a node, those of an earlier part before those of a later one.
use Rattle.std.proofs.Common.{◌≡◌, ℕ, ◌+◌, ◌<◌, ◌≤◌, List, [], ◌∷◌, ◌++◌, Some, None, refl, sym, ap, subst, ◌∙◌, append_assoc, arith}
use Rattle.std.proofs.lemmas.List.Sums.{sum_by-cons}
use Rattle.doc_model.specs.declared.node.Node.{Node}
use Rattle.cts_meaning.specs.Faults.{AreFaultless, FaultIn, IsFaultless, IsFirstFault, node_count, number_behind}
use Rattle.cts_meaning.specs.Laws.{FaultsLieInside}
use Rattle.cts_meaning.specs.Shapes.{ShapedNode, shaped_children}
use Rattle.cts_meaning.specs.declared.shape.Shape.{Shape}
use Rattle.cts_meaning.proofs.Counts.{behind_append, behind_cons, count_some, part_count}
use Rattle.cts_meaning.proofs.Parts.{count_of_parts, one_list}
use Rattle.cts_meaning.proofs.Named.{not_some}

-- ---- within the node

part_within : (wanted : Shape) (n : Node) (before behind : List ShapedNode) (part : ShapedNode) →
    shaped_children wanted n ≡ Some (before ++ part ∷ behind) → number_behind before + node_count part.1 ≤ node_count n
part_within wanted n before behind part fits =
    let all = count_of_parts wanted n (before ++ part ∷ behind) fits in
    let split = behind_append before behind part in
    omega (arith, all, split)

lies_inside : {wanted : Shape} {n : Node} {number : ℕ} → FaultIn wanted n number → number < node_count n
lies_inside (FaultIn.here wanted n number misfit is) = omega (arith, is, count_some n)
lies_inside (FaultIn.inside wanted n number before behind part inner fits deeper is) =
    let lies = lies_inside deeper in
    let within = part_within wanted n before behind part fits in
    omega (arith, is, lies, within)

pub faults_lie_inside : FaultsLieInside
faults_lie_inside wanted n number fault = lies_inside fault

-- ---- in a node that fits

-- a fault is in one of the parts
pub record InPart (parts : List ShapedNode) (number : ℕ) : Type 0 where
  pub before : List ShapedNode
  pub part : ShapedNode
  pub behind : List ShapedNode
  pub inner : ℕ
  pub are : parts ≡ before ++ part ∷ behind
  pub fault : FaultIn part.0 part.1 inner
  pub is : number ≡ number_behind before + inner

pub in_part : {wanted : Shape} {n : Node} {number : ℕ} → FaultIn wanted n number → (parts : List ShapedNode) →
    shaped_children wanted n ≡ Some parts → InPart parts number
in_part (FaultIn.here wanted n number misfit is) parts fits = absurd (not_some parts (sym misfit ∙ fits))
in_part (FaultIn.inside wanted n number before behind part inner has deeper is) parts fits = record {
  before = before;
  part = part;
  behind = behind;
  inner = inner;
  are = one_list parts (before ++ part ∷ behind) fits has;
  fault = deeper;
  is = is;
}

faultless_among : (before behind : List ShapedNode) (part : ShapedNode) → AreFaultless (before ++ part ∷ behind) →
    IsFaultless part.0 part.1
faultless_among [] behind part clean = clean.0
faultless_among (first ∷ before) behind part clean = faultless_among before behind part clean.1

-- a node that fits has no fault where its parts have none
pub faultless_of : (wanted : Shape) (n : Node) (parts : List ShapedNode) → shaped_children wanted n ≡ Some parts →
    AreFaultless parts →
    IsFaultless wanted n
faultless_of wanted n parts fits clean number fault =
    let found = in_part fault parts fits in
    faultless_among found.before found.behind found.part (subst AreFaultless found.are clean) found.inner found.fault

parts_from : (wanted : Shape) (n : Node) (parts before rest : List ShapedNode) → shaped_children wanted n ≡ Some parts →
    IsFaultless wanted n →
    parts ≡ before ++ rest → AreFaultless rest
parts_from wanted n parts before [] fits clean are = tt
parts_from wanted n parts before (part ∷ rest) fits clean are = (
  λ inner fault. clean (number_behind before + inner)
      (FaultIn.inside wanted n (number_behind before + inner) before rest part inner
      (fits ∙ ap (λ (ps : List ShapedNode). Some ps) are) fault refl),
  parts_from wanted n parts (before ++ part ∷ []) rest fits clean (are ∙ sym (append_assoc before (part ∷ []) rest)),
)

-- and its parts have none where it has none
pub parts_faultless : (wanted : Shape) (n : Node) (parts : List ShapedNode) → shaped_children wanted n ≡ Some parts →
    IsFaultless wanted n →
    AreFaultless parts
parts_faultless wanted n parts fits clean = parts_from wanted n parts [] parts fits clean refl

-- ---- the first fault

abbrev head_or : ShapedNode → List ShapedNode → ShapedNode
head_or other [] = other
head_or other (part ∷ parts) = part

abbrev rest_of : List ShapedNode → List ShapedNode
rest_of [] = []
rest_of (part ∷ parts) = parts

same_head : (part other : ShapedNode) (parts others : List ShapedNode) → part ∷ parts ≡ other ∷ others → part ≡ other
same_head part other parts others e = ap (head_or part) e

same_rest : (part other : ShapedNode) (parts others : List ShapedNode) → part ∷ parts ≡ other ∷ others → parts ≡ others
same_rest part other parts others e = ap rest_of e

-- a fault in a part isn't before the first fault of a part before which there is none
no_sooner : (before b : List ShapedNode) (part p : ShapedNode) (behind h : List ShapedNode) (k i : ℕ) →
    before ++ part ∷ behind ≡ b ++ p ∷ h → AreFaultless before → IsFirstFault part.0 part.1 k → FaultIn p.0 p.1 i →
    number_behind before + k ≤ number_behind b + i
no_sooner [] [] part p behind h k i e clean first fault =
    let least = first.least i (subst (λ (q : ShapedNode). FaultIn q.0 q.1 i) (sym (same_head part p behind h e)) fault) in
    omega (arith, least)
no_sooner [] (x ∷ b) part p behind h k i e clean first fault =
    let lies = lies_inside first.faulty in
    let same = ap part_count (same_head part x behind (b ++ p ∷ h) e) in
    omega (arith, lies, same, sum_by-cons part_count x b)
no_sooner (x ∷ before) [] part p behind h k i e clean first fault =
    let same = same_head x p (before ++ part ∷ behind) h e in
    absurd (clean.0 i (subst (λ (q : ShapedNode). FaultIn q.0 q.1 i) (sym same) fault))
no_sooner (x ∷ before) (y ∷ b) part p behind h k i e clean first fault =
    let same = ap part_count (same_head x y (before ++ part ∷ behind) (b ++ p ∷ h) e) in
    let rest = same_rest x y (before ++ part ∷ behind) (b ++ p ∷ h) e in
    let later = no_sooner before b part p behind h k i rest clean.1 first fault in
    omega (arith, same, later, behind_cons x before, behind_cons y b)

-- in a node that fits, the first fault of the first part that has one is the first
pub first_of_parts : (wanted : Shape) (n : Node) (before behind : List ShapedNode) (part : ShapedNode) (k : ℕ) →
    shaped_children wanted n ≡ Some (before ++ part ∷ behind) → AreFaultless before → IsFirstFault part.0 part.1 k →
    IsFirstFault wanted n (number_behind before + k)
first_of_parts wanted n before behind part k fits clean first = record {
  faulty = FaultIn.inside wanted n (number_behind before + k) before behind part k fits first.faulty refl;
  least = λ other fault.
      let found = in_part fault (before ++ part ∷ behind) fits in
      let later = no_sooner before found.before part found.part behind found.behind k found.inner found.are clean first
      found.fault in
      omega (arith, later, found.is);
}

-- a node that doesn't fit is the first fault itself
pub first_here : (wanted : Shape) (n : Node) → shaped_children wanted n ≡ None →
    IsFirstFault wanted n 0
first_here wanted n misfit =
    record { faulty = FaultIn.here wanted n 0 misfit refl; least = λ other fault. omega arith }

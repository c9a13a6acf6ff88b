-- A node has no fault as a shape, or a first one.
use Rattle.std.proofs.Common.{◌≡◌, ℕ, zero, suc, ◌+◌, ◌≤◌, ◌⊎◌, inl, inr, List, [], ◌∷◌, ◌++◌, sum_by, Option, Some, None, refl, ap, ◌∙◌, arith}
use Rattle.std.proofs.lemmas.List.Sums.{sum_by-cons}
use Rattle.doc_model.specs.declared.node.Node.{Node}
use Rattle.cts_meaning.specs.Faults.{AreFaultless, FaultIn, IsFaultless, IsFirstFault, node_count, number_behind}
use Rattle.cts_meaning.specs.Shapes.{ShapedNode, shaped_children}
use Rattle.cts_meaning.specs.declared.shape.Shape.{Shape}
use Rattle.cts_meaning.proofs.Counts.{count_some, part_count}
use Rattle.cts_meaning.proofs.Least.{faultless_of, first_here, first_of_parts, parts_faultless}
use Rattle.cts_meaning.proofs.Parts.{count_of_parts}

abbrev pub Judged : Shape → Node → Type 0
Judged wanted n = IsFaultless wanted n ⊎ ((number : ℕ) × IsFirstFault wanted n number)

-- one of the parts is the first that has a fault
record FirstIn (parts : List ShapedNode) : Type 0 where
  before : List ShapedNode
  part : ShapedNode
  behind : List ShapedNode
  number : ℕ
  are : parts ≡ before ++ part ∷ behind
  clean : AreFaultless before
  first : IsFirstFault part.0 part.1 number

abbrev AreJudged : List ShapedNode → Type 0
AreJudged parts = AreFaultless parts ⊎ FirstIn parts

head_judged : (part : ShapedNode) (parts : List ShapedNode) → Judged part.0 part.1 → AreJudged parts → AreJudged (part ∷ parts)
head_judged part parts (inl clean) (inl more) = inl (clean, more)
head_judged part parts (inl clean) (inr later) = inr (record {
  before = part ∷ later.before;
  part = later.part;
  behind = later.behind;
  number = later.number;
  are = ap (λ (ps : List ShapedNode). part ∷ ps) later.are;
  clean = (clean, later.clean);
  first = later.first;
})
head_judged part parts (inr (number, first)) more = inr (record {
  before = [];
  part = part;
  behind = parts;
  number = number;
  are = refl;
  clean = tt;
  first = first;
})

parts_judged : (room : ℕ) → ((wanted : Shape) (n : Node) → node_count n ≤ room → Judged wanted n) →
    (parts : List ShapedNode) →
    sum_by part_count parts ≤ room → AreJudged parts
parts_judged room judge [] le = inl tt
parts_judged room judge (part ∷ parts) le =
    let sum = sum_by-cons part_count part parts in
    head_judged part parts (judge part.0 part.1 (omega (arith, le, sum)))
    (parts_judged room judge parts (omega (arith, le, sum)))

from_parts : (wanted : Shape) (n : Node) (parts : List ShapedNode) → shaped_children wanted n ≡ Some parts → AreJudged parts →
    Judged wanted n
from_parts wanted n parts fits (inl clean) = inl (faultless_of wanted n parts fits clean)
from_parts wanted n parts fits (inr first) = inr (
  number_behind first.before + first.number,
  first_of_parts wanted n first.before first.behind first.part first.number
      (fits ∙ ap (λ (ps : List ShapedNode). Some ps) first.are) first.clean first.first,
)

judged_by : (room : ℕ) (wanted : Shape) (n : Node) → node_count n ≤ suc room →
    ((other : Shape) (m : Node) → node_count m ≤ room → Judged other m) → (o : Option (List ShapedNode)) →
    shaped_children wanted n ≡ o → Judged wanted n
judged_by room wanted n le judge (Some parts) fits =
    let all = count_of_parts wanted n parts fits in
    from_parts wanted n parts fits (parts_judged room judge parts (omega (arith, le, all)))
judged_by room wanted n le judge None misfit = inr (0, first_here wanted n misfit)

judged_within : (room : ℕ) (wanted : Shape) (n : Node) → node_count n ≤ room → Judged wanted n
judged_within zero wanted n le = absurd (omega (arith, le, count_some n))
judged_within (suc room) wanted n le = judged_by room wanted n le (judged_within room) (shaped_children wanted n) refl

pub judged : (wanted : Shape) (n : Node) → Judged wanted n
judged wanted n = judged_within (node_count n) wanted n (omega arith)

-- ---- a node without a fault

-- its parts, of which none has one either
pub record Clean (wanted : Shape) (n : Node) : Type 0 where
  pub parts : List ShapedNode
  pub fits : shaped_children wanted n ≡ Some parts
  pub clean : AreFaultless parts

clean_by : (wanted : Shape) (n : Node) → IsFaultless wanted n → (o : Option (List ShapedNode)) → shaped_children wanted n ≡ o →
    Clean wanted n
clean_by wanted n clean (Some parts) fits =
    record { parts = parts; fits = fits; clean = parts_faultless wanted n parts fits clean }
clean_by wanted n clean None misfit = absurd (clean 0 (FaultIn.here wanted n 0 misfit refl))

pub clean_node : (wanted : Shape) (n : Node) → IsFaultless wanted n → Clean wanted n
clean_node wanted n clean = clean_by wanted n clean (shaped_children wanted n) refl

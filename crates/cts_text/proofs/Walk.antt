-- A walk over the parts of a node, in their order, finds its first fault.
use Rattle.std.proofs.Common.{◌≡◌, ℕ, ◌+◌, List, [], ◌∷◌, Option, Some, None, Result, Ok, Err, refl, sym, ap, subst, ◌∙◌, arith}
use Rattle.std.proofs.lemmas.List.Sums.{sum_by-cons}
use Rattle.doc_model.specs.declared.node.Node.{Node}
use Rattle.doc_model.specs.declared.node.Node.TheOpen.{Node-F}
use Rattle.doc_model.specs.declared.node.Node.TheViews.{out-Node}
use Rattle.cts_meaning.specs.Faults.{IsFirstFault, node_count}
use Rattle.cts_meaning.specs.Shapes.{ShapedNode, children_by, shaped_children, rule_of}
use Rattle.cts_meaning.specs.declared.shape.Shape.{Shape}
use Rattle.cts_meaning.proofs.Least.{faultless_of, first_here, first_of_parts}
use Rattle.cts_meaning.proofs.Parts.{count_of_parts}
use Rattle.cts_text.specs.Judging.{Judges, JudgesBy, JudgesParts}

-- ---- a step

-- the first part has no fault, and the others are judged so
pub judged_more : (part : ShapedNode) (parts : List ShapedNode) (number next : ℕ) (answer : Result ℕ ℕ) →
    Judges part.0 part.1 number (Ok next) → JudgesParts parts next answer → JudgesParts (part ∷ parts) number answer
judged_more part parts number next (Ok end) (clean, is) (others, ends) =
    ((clean, others), omega (arith, is, ends, sum_by-cons (λ (p : ShapedNode). node_count p.1) part parts))
judged_more part parts number next (Err faulty) (clean, is) (inner, first, at) = (
  node_count part.1 + inner,
  record {
    before = part ∷ first.before;
    part = first.part;
    behind = first.behind;
    inner = first.inner;
    are = ap (λ (ps : List ShapedNode). part ∷ ps) first.are;
    clean = (clean, first.clean);
    first = first.first;
    is = omega (arith, first.is, sum_by-cons (λ (p : ShapedNode). node_count p.1) part first.before);
  },
  omega (arith, is, at),
)

-- the first part has a fault
pub judged_stop : (part : ShapedNode) (parts : List ShapedNode) (number faulty : ℕ) →
    Judges part.0 part.1 number (Err faulty) → JudgesParts (part ∷ parts) number (Err faulty)
judged_stop part parts number faulty (inner, first, at) = (
  inner,
  record {
    before = [];
    part = part;
    behind = parts;
    inner = inner;
    are = refl;
    clean = tt;
    first = first;
    is = omega arith;
  },
  at,
)

pub judged_none : (number : ℕ) → JudgesParts [] number (Ok number)
judged_none number = (tt, omega arith)

-- ---- a node

judged_fit : (wanted : Shape) (n : Node) (number : ℕ) (parts : List ShapedNode) (answer : Result ℕ ℕ) →
    shaped_children wanted n ≡ Some parts → JudgesParts parts (number + 1) answer → Judges wanted n number answer
judged_fit wanted n number parts (Ok next) fits (clean, is) =
    (faultless_of wanted n parts fits clean, omega (arith, is, count_of_parts wanted n parts fits))
judged_fit wanted n number parts (Err faulty) fits (inner, first, at) = (
  1 + inner,
  subst (λ (k : ℕ). IsFirstFault wanted n k) (omega (arith, first.is))
      (first_of_parts wanted n first.before first.behind first.part first.inner
      (fits ∙ ap (λ (ps : List ShapedNode). Some ps) first.are) first.clean first.first),
  omega (arith, at),
)

judged_by : (wanted : Shape) (n : Node) (number : ℕ) (answer : Result ℕ ℕ) (o : Option (List ShapedNode)) →
    shaped_children wanted n ≡ o → JudgesBy o number answer → Judges wanted n number answer
judged_by wanted n number answer None misfit is =
    subst (Judges wanted n number) (sym is) (0, first_here wanted n misfit, omega arith)
judged_by wanted n number answer (Some parts) fits judged = judged_fit wanted n number parts answer fits judged

-- a node is judged by what its layer tells of its parts
pub judged : (wanted : Shape) (n : Node) (y : Node-F Node) (number : ℕ) (answer : Result ℕ ℕ) → out-Node n ≡ y →
    JudgesBy (children_by (rule_of wanted) y) number answer → Judges wanted n number answer
judged wanted n y number answer is by =
    judged_by wanted n number answer (children_by (rule_of wanted) y) (ap (children_by (rule_of wanted)) is) by

-- What the text of a query is answered, from what its tree is.
use Rattle.std.proofs.Common.{◌≡◌, ℕ, ◌⊎◌, inl, inr, List, Err, sym, ap, subst, arith}
use Rattle.std.specs.Prelude.{◌≢◌}
use Rattle.doc_model.specs.declared.node.Node.{Node}
use Rattle.doc_model.specs.declared.query.Query.{Query}
use Rattle.json_text.specs.Faults.{IsRefusedText}
use Rattle.json_text.specs.Grammar.{IsJson}
use Rattle.json_text.specs.declared.bad.JsonBad.{JsonBad}
use Rattle.json_text.specs.declared.bad.JsonBad.TheVariants as json
use Rattle.cts_meaning.specs.Faults.{FaultIn, IsFaultless, IsFirstFault, IsQueryFault}
use Rattle.cts_meaning.specs.Saying.{IsQuery, IsQueryText, Says}
use Rattle.cts_meaning.specs.declared.shape.Shape.TheVariants as shape
use Rattle.cts_meaning.proofs.EachJudged.{each_tree_is_judged}
use Rattle.cts_text.specs.Answers.{RefusesQueryText}
use Rattle.cts_text.specs.Bad.{of_json}
use Rattle.cts_text.specs.Judging.{Judges}
use Rattle.cts_text.specs.Saids.{IsSaid}
use Rattle.cts_text.specs.declared.bad.QueryTextBad.TheVariants as bad

-- ---- JSON that is refused

pub json_refused : (bytes : List ℕ) (why : JsonBad) → (why ≢ json.Memory → IsRefusedText bytes why) →
    RefusesQueryText bytes (of_json why)
json_refused bytes (json.Syntax place) refused = refused (λ e. cc)
json_refused bytes (json.Utf8 place) refused = refused (λ e. cc)
json_refused bytes (json.Depth place) refused = refused (λ e. cc)
json_refused bytes (json.Number place) refused = refused (λ e. cc)
json_refused bytes json.Memory refused = tt

pub json_only : (bytes : List ℕ) (why : JsonBad) → ((n : Node) → IsJson bytes n → why ≡ json.Memory) → (q : Query) →
    IsQueryText bytes q → of_json why ≡ bad.Memory
json_only bytes why only q (n, json, is) = ap of_json (only n json)

-- ---- a tree without faults

said_query : (bytes : List ℕ) (n : Node) (q : Query) → IsJson bytes n → IsFaultless shape.Query n → IsSaid n q →
    ((r : Query) × IsQuery n r) ⊎ ((number : ℕ) × IsQueryFault n number) → IsQueryText bytes q
said_query bytes n q json clean said (inl (r, is)) =
    subst (IsQueryText bytes) (sym (said clean is.depth r is.says)) (n, json, is)
said_query bytes n q json clean said (inr (number, first)) = absurd (clean number first.faulty)

pub query_found : (bytes : List ℕ) (n : Node) (q : Query) → IsJson bytes n → IsFaultless shape.Query n → IsSaid n q →
    IsQueryText bytes q
query_found bytes n q json clean said = said_query bytes n q json clean said (each_tree_is_judged n)

pub query_only : (bytes : List ℕ) (n : Node) (r : Query) → ((m : Node) → IsJson bytes m → n ≡ m) →
    IsFaultless shape.Query n → IsSaid n r → (q : Query) → IsQueryText bytes q → r ≡ q
query_only bytes n r only clean said q (m, json, is) =
    said clean is.depth q (subst (λ (k : Node). Says is.depth k q) (sym (only m json)) is.says)

-- ---- a tree with one

pub fault_told : (bytes : List ℕ) (n : Node) (number : ℕ) → IsJson bytes n → Judges shape.Query n 0 (Err number) →
    RefusesQueryText bytes (bad.Shape number)
fault_told bytes n number json (inner, first, at) =
    (n, json, subst (λ (k : ℕ). IsFirstFault shape.Query n k) (omega (arith, at)) first)

pub fault_only : (bytes : List ℕ) (n : Node) (number : ℕ) → ((m : Node) → IsJson bytes m → n ≡ m) →
    Judges shape.Query n 0 (Err number) → (q : Query) → IsQueryText bytes q → ⊥
fault_only bytes n number only (inner, first, at) q (m, json, is) =
    is.faultless inner (subst (λ (k : Node). FaultIn shape.Query k inner) (only m json) first.faulty)

-- Members put one behind another.
use Rattle.std.proofs.Common.{◌≡◌, ℕ, List, [], ◌∷◌, ◌++◌, Result, Ok, Err, IfOk, OnOk, ap, subst, ◌∙◌}
use Rattle.doc_model.specs.declared.node.Node.{Node}
use Rattle.json_text.specs.Grammar.{Member}
use Rattle.cts_meaning.specs.Canonical.{query_object}
use Rattle.cts_meaning.specs.declared.form.QueryForm.{QueryForm}

abbrev pub pair : List ℕ → Node → Member
pair name n = (name, n)

pub two_members : (first second : List ℕ) (a b wa wb : Node) (rest named told all : List Member) →
    named ≡ pair first a ∷ [] → told ≡ named ++ pair second b ∷ [] → all ≡ told ++ rest → a ≡ wa → b ≡ wb →
    all ≡ pair first wa ∷ pair second wb ∷ rest
two_members first second a b wa wb rest named told all e f g is also =
    g ∙ ap (λ (ms : List Member). ms ++ rest) (f ∙ ap (λ (ms : List Member). ms ++ pair second b ∷ []) e)
    ∙ ap (λ (n : Node). pair first n ∷ pair second b ∷ rest) is
    ∙ ap (λ (n : Node). pair first wa ∷ pair second n ∷ rest) also

pub more_members : (first : List ℕ) (a : Node) (rest more named told all : List Member) →
    named ≡ pair first a ∷ [] → told ≡ named ++ rest → all ≡ told ++ more → all ≡ pair first a ∷ (rest ++ more)
more_members first a rest more named told all e f g =
    g ∙ ap (λ (ms : List Member). ms ++ more) (f ∙ ap (λ (ms : List Member). ms ++ rest) e)

-- the object of members that are these
pub object_of : {E : Type 0} (f : QueryForm) (all wanted : List Member) (answer : Result Node E) → all ≡ wanted →
    IfOk answer (λ n. n ≡ query_object f all) → IfOk answer (λ n. n ≡ query_object f wanted)
object_of f all wanted answer is holds =
    subst (λ (ms : List Member). IfOk answer (λ n. n ≡ query_object f ms)) is holds

pub on_ok : {X E : Type 0} (answer : Result X E) (P : Type 0) → P → OnOk answer P
on_ok (Ok x) P p = p
on_ok (Err e) P p = tt

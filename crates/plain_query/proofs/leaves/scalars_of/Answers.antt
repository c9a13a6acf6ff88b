use Rattle.std.proofs.Common.{◌≡◌, List, map, filter, Some, IfOk, subst, ◌∙◌}
use Rattle.doc_model.specs.declared.scalar.Scalar.{Scalar}
use Rattle.doc_meaning.specs.Strings.{Property, is_named}
use Rattle.plain_query.proofs.leaves.scalars_of.Goals as goal

pub returns : goal.returns
returns c =
    let owned : List (Property × Scalar) → List Scalar =
    λ xs. map (λ s. s.1) (filter (λ s. is_named (Some c.args.names.now) s.0) xs) in
    let P : List (Property × Scalar) → Type 0 = λ xs. IfOk c.owned_scalars.result (λ found. found ≡ owned xs) in
    subst P (c.as_slice.ensures ∙ c.in_ok-found.ensures) c.owned_scalars.ensures

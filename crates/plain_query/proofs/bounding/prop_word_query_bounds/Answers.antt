use Rattle.std.proofs.Common.{◌≡◌, List, IfOk, subst, ap, ◌∙◌}
use Rattle.doc_meaning.specs.declared.string_node.StringNode.{StringNode}
use Rattle.doc_meaning.specs.Strings.{strings}
use Rattle.plain_query.specs.PropertyTexts.{names_bounds}
use Rattle.plain_query.proofs.bounding.prop_word_query_bounds.Goals as goal

pub returns : goal.returns
returns c =
    let told : List StringNode → Type 0 =
    λ found. IfOk c.names_bounds.result (λ b. b ≡ names_bounds found c.args.case c.args.texts.now c.args.names.now) in
    subst told (c.as_slice.ensures ∙ c.in_ok-found.ensures ∙ ap strings c.root.ensures.value) c.names_bounds.ensures

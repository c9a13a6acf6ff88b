use Rattle.std.proofs.Common.{◌≡◌, ℕ, ◌<◌, Bool, true, List, [], ◌∷◌, length, refl, sym, arith}
use Rattle.doc_meaning.specs.declared.string_node.StringNode.{StringNode}
use Rattle.doc_meaning.specs.Estimates.{neighbours_occur}
use Rattle.plain_query.proofs.text_bounding.+neighbours_occur.Goals as goal

one_occurs : (found : List StringNode) (any_case : Bool) (words : List (List ℕ)) → length words < 2 →
    neighbours_occur found any_case words ≡ true
one_occurs found any_case [] h = refl
one_occurs found any_case (w ∷ []) h = refl
one_occurs found any_case (v ∷ w ∷ words) h = absurd (omega arith)

pub returns-in_default : goal.returns-in_default
returns-in_default t c = sym (one_occurs c.args.found.now c.args.any_case c.args.words.now c.in_default.len_below)

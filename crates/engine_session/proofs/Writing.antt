-- The JSON texts of texts and of arrays of them.
use Rattle.std.proofs.Common.{◌≡◌, ◌∙◌, ap, sym, refl, ℕ, List, [], ◌∷◌, ◌++◌, map}
use Rattle.doc_model.specs.declared.node.Node.TheFolds.{fold-roll-Node}
use Rattle.doc_model.specs.declared.node.Node.TheOpen.{Node-F}
use Rattle.doc_model.specs.declared.node.Node.TheVariants as node
use Rattle.json_text.specs.Canonical.{node_step, node_text, quoted}
use Rattle.json_text.specs.Grammar.{joined}

-- a text is written between quotation marks
pub text_text : (text : List ℕ) → node_text (node.Text text) ≡ quoted text
text_text text =
    ap node_text (sym (node.rolls-Text text)) ∙ fold-roll-Node (List ℕ) node_step (Node-F.Text text)

each_text : (texts : List (List ℕ)) → map node_text (map node.Text texts) ≡ map quoted texts
each_text [] = refl
each_text (text ∷ texts) = rw (text_text text, each_text texts) refl

-- an array of texts is written as each of them
pub texts_text : (texts : List (List ℕ)) → node_text (node.Items (map node.Text texts))
    ≡ 0x5B ∷ joined (map quoted texts) ++ 0x5D ∷ []
texts_text texts =
    ap node_text (sym (node.rolls-Items (map node.Text texts)))
    ∙ fold-roll-Node (List ℕ) node_step (Node-F.Items (map node.Text texts))
    ∙ ap (λ (each : List (List ℕ)). 0x5B ∷ joined each ++ 0x5D ∷ []) (each_text texts)

use Rattle.std.proofs.Common.{sym, ap, subst, ◌∙◌, ◌++◌, List, ℕ}
use Rattle.std.specs.Str.{IsUtf8}
use Rattle.std.proofs.lemmas.Str.{IsUtf8-string_bytes}
use Rattle.json_text.specs.Canonical.{node_text}
use Rattle.json_text.proofs.CanonicalTrees.{written_is}
use Rattle.json_text.proofs.writing.write.Goals as goal

pub returns-clause-of_node : goal.returns-clause-of_node
returns-clause-of_node c =
    let n = c.args.node.now in
    let whole = c.from_string.ensures ∙ c.in_ok-put_node.ensures.written ∙ ap (λ (x : List ℕ). x ++ node_text n)
    c.new-out.ensures.bytes in
    let valid = subst IsUtf8 (sym c.from_string.ensures) (IsUtf8-string_bytes c.put_node.new.out) in
    λ d names. written_is c.from_string.result n whole valid c.in_ok-put_node.ensures.values d names

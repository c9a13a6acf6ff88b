use Rattle.std.proofs.Common.{◌≡◌, Result, Ok, Err, sym, ◌∙◌}
use Rattle.doc_model.specs.declared.node.Node.{Node}
use Rattle.json_text.specs.Laws.{ReadOrRefused}
use Rattle.json_text.specs.declared.fault.Fault.{Fault}
use Rattle.json_text.proofs.OnlyValues.{only}
use Rattle.json_text.proofs.laws.read_or_refused.Goals as goal

read_or_refused : ReadOrRefused
read_or_refused bytes v why is refused =
    let never : ◌≡◌ {A = Result Node Fault} (Ok v) (Err refused.fault) = sym (only bytes v is) ∙ refused.read in
    absurd cc

pub returns : goal.returns
returns c = read_or_refused

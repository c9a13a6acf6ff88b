use Rattle.std.proofs.Common.{◌≡◌, Result, Err, length, sym, ap, ◌∙◌}
use Rattle.doc_model.specs.declared.node.Node.{Node}
use Rattle.json_text.specs.Answers.{placed}
use Rattle.json_text.specs.Laws.{RefusedInOneWay}
use Rattle.json_text.specs.declared.fault.Fault.{Fault}
use Rattle.json_text.proofs.laws.refused_in_one_way.Goals as goal

refused_in_one_way : RefusedInOneWay
refused_in_one_way bytes why other one two =
    let both : ◌≡◌ {A = Result Node Fault} (Err one.fault) (Err two.fault) = sym one.read ∙ two.read in
    let same : one.fault ≡ two.fault = cc in
    one.at ∙ ap (λ (f : Fault). placed (length bytes) f) same ∙ sym two.at

pub returns : goal.returns
returns c = refused_in_one_way

use Rattle.std.proofs.Common.{◌≡◌, ◌+◌, take, sum_by, length}
use Rattle.doc_model.proofs.size.charge_texts.Given as goal

abbrev pub invariant-loop-text : goal.invariant-loop-text
invariant-loop-text l = l.rest + sum_by length (take l.text-index l.texts) ≡ l.left

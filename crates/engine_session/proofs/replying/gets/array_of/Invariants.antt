use Rattle.std.proofs.Common.{◌≡◌, map, take}
use Rattle.doc_model.specs.declared.node.Node.TheVariants as node
use Rattle.engine_session.proofs.replying.gets.array_of.Given as goal

abbrev pub invariant-loop-text : goal.invariant-loop-text
invariant-loop-text l = l.items ≡ map node.Text (take l.text-index l.texts)

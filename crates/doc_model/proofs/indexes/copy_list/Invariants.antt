use Rattle.std.proofs.Common.{◌≡◌, take}
use Rattle.doc_model.proofs.indexes.copy_list.Given as goal

abbrev pub invariant-loop-index : goal.invariant-loop-index
invariant-loop-index l = l.out ≡ take l.index-index l.list

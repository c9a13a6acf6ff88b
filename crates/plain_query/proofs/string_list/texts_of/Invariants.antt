use Rattle.std.proofs.Common.{◌≡◌, take}
use Rattle.std.specs.List.{filter_map}
use Rattle.doc_meaning.specs.Strings.{text_of}
use Rattle.plain_query.proofs.string_list.texts_of.Given as goal

abbrev pub invariant-loop-scalar : goal.invariant-loop-scalar
invariant-loop-scalar l = l.out ≡ filter_map text_of (take l.scalar-index l.scalars)

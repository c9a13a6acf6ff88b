use Rattle.byte_formats.proofs.Wholes.{decodes_well}
use Rattle.docs_format.specs.NodeFormat.{node}
use Rattle.docs_format.proofs.NodeLaws.{node_lawful}
use Rattle.docs_format.proofs.laws.nodes_decode_well.Goals as goal

pub returns : goal.returns
returns c = λ depth. decodes_well (node depth) (node_lawful depth)

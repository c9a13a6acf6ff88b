use Rattle.byte_formats.proofs.Wholes.{decodes_well}
use Rattle.docs_format.specs.DocumentFormat.{document}
use Rattle.docs_format.proofs.DocumentLaws.{document_lawful}
use Rattle.docs_format.proofs.laws.documents_decode_well.Goals as goal

pub returns : goal.returns
returns c = decodes_well document document_lawful

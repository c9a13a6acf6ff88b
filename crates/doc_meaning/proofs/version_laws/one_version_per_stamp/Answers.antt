use Rattle.doc_meaning.proofs.VersionLemmas.{one_version_per_stamp}
use Rattle.doc_meaning.proofs.version_laws.one_version_per_stamp.Goals as goal

pub returns : goal.returns
returns c = one_version_per_stamp

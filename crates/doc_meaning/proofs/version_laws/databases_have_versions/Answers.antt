use Rattle.doc_meaning.proofs.VersionLemmas.{databases_have_versions}
use Rattle.doc_meaning.proofs.version_laws.databases_have_versions.Goals as goal

pub returns : goal.returns
returns c = databases_have_versions

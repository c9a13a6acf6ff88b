use Rattle.directory_meaning.proofs.FileLemmas.{other_files_do_not_count}
use Rattle.directory_meaning.proofs.laws.other_files_do_not_count.Goals as goal

pub returns : goal.returns
returns c = other_files_do_not_count

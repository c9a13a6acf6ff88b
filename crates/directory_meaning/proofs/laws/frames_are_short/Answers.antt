use Rattle.directory_meaning.proofs.LengthLemmas.{frames_are_short}
use Rattle.directory_meaning.proofs.laws.frames_are_short.Goals as goal

pub returns : goal.returns
returns c = frames_are_short

use Rattle.docs_format.proofs.Places.{faults_stay}
use Rattle.docs_format.proofs.laws.faults_stay.Goals as goal

pub returns : goal.returns
returns c = faults_stay

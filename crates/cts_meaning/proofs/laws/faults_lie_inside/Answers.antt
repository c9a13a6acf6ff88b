use Rattle.cts_meaning.proofs.Least.{faults_lie_inside}
use Rattle.cts_meaning.proofs.laws.faults_lie_inside.Goals as goal

pub returns : goal.returns
returns c = faults_lie_inside

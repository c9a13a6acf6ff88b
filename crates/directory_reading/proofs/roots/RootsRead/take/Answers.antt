use Rattle.std.proofs.Common.{subst}
use Rattle.directory_reading.proofs.NewestLemmas.{IsNewer, root_push}
use Rattle.directory_reading.proofs.roots.RootsRead.take.Goals as goal

pub returns : goal.returns
returns c = λ bodies has at. root_push c.args.file c.args.gate bodies c.args.body.now c.args.self.now.newest
    c.in_ok-next.next c.newer.result has at c.in_ok-next.ensures
    (subst (λ earlier. IsNewer earlier c.in_ok-next.next c.newer.result) c.take.ensures.value c.newer.ensures)

use Rattle.std.proofs.Common.{subst}
use Rattle.directory_reading.specs.Reading.{HasNewest}
use Rattle.directory_reading.proofs.NewestLemmas.{IsNewer, newest_of_both, newest_of_first}
use Rattle.directory_reading.proofs.newest.newest_root.Goals as goal

pub returns-in-Some : goal.returns-in-Some
returns-in-Some c = λ bodies zeros ones. newest_of_both bodies c.args.first.newest c.in-Some.next c.newer.result zeros
    (subst (HasNewest 3 (bodies 3)) c.in-Some.is ones)
    (subst (λ next. IsNewer c.args.first.newest next c.newer.result) c.in-Some.next-is c.newer.ensures)

pub returns-in-None : goal.returns-in-None
returns-in-None c = λ bodies zeros ones.
    newest_of_first bodies c.args.first.newest zeros (subst (HasNewest 3 (bodies 3)) c.in-None.is ones)

use Rattle.std.proofs.Common.{arith}
use Rattle.client_run.proofs.Windows.{is_long}
use Rattle.client_run.proofs.reader.LineReader.find.Goals as goal

pub returns-in-Some-2-clause-found : goal.returns-in-Some-2-clause-found
returns-in-Some-2-clause-found c = is_long c.args.self.now.pending c.in-Some.count c.in-Some.ensures.found
    (omega (arith, c.if-count-le-LONGEST_LINE.false))

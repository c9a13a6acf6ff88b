use Rattle.std.proofs.Common.{subst, take}
use Rattle.client_lines.specs.Rows.{IsOfKind}
use Rattle.client_lines.specs.declared.row.WordKind.{WordKind}
use Rattle.client_lines.proofs.row.WordKind.end.Goals as goal

pub returns-in-Timestamp-clause-longest : goal.returns-in-Timestamp-clause-longest
returns-in-Timestamp-clause-longest c = λ more less le is.
    c.timestamp_end.ensures.longest more less le
    (subst (λ (s : WordKind). IsOfKind s (take more c.args.bytes.now)) c.in-Timestamp.is is)

use Rattle.std.proofs.Common.{rules}
use Rattle.std.proofs.lemmas.Nat.{be_bytes_8}
use Rattle.frame_log.proofs.next_frame.number_of.Goals as goal

pub returns-clause-spelled : goal.returns-clause-spelled
returns-clause-spelled c = be_bytes_8 c.args.bytes _ (search rules) (search rules) c.from_be_bytes.ensures

use Rattle.std.proofs.Common.{◌≤◌, Option, IfSome, length, sym, subst, arith}
use Rattle.disk_model.specs.Logs.{Image}
use Rattle.log_tests.proofs.disks.append.Goals as goal

pub write_at-requires-clause-place : goal.write_at-requires-clause-place
write_at-requires-clause-place c =
    subst (λ (s : Option Image). IfSome s (λ image. c.in_ok-end.end ≤ length (image 0)))
    (sym c.in_ok-end.ensures.seen) (omega (arith, c.in_ok-end.ensures.bytes))

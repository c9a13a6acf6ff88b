use Rattle.std.proofs.Common.{arith}
use Rattle.std.proofs.lemmas.Grind.{common_steps}
use Rattle.disk_memory.proofs.Pieces.{next_bytes, none_left}
use Rattle.disk_memory.proofs.streams.MemorySourceSource.read.Goals as goal

pub returns-clause-bytes : goal.returns-clause-bytes
returns-clause-bytes c =
    let s = c.args.self.now in
    let n = c.min-count.result in (
      next_bytes s.at n s.bytes.items c.args.out.now c.copy_from_slice.new.self (grind (arith, common_steps))
          (grind (arith, common_steps)),
      λ zero room. none_left s.at n s.bytes.items zero (grind (arith, common_steps)),
    )

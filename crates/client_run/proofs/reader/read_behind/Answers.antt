use Rattle.std.proofs.Common.{◌≡◌, ◌≤◌, ◌<◌, ◌-◌, length, take, sym, arith, vec_len}
use Rattle.client_run.proofs.Windows.{read_behind}
use Rattle.client_run.proofs.reader.read_behind.Goals as goal

pub returns-in-Ok-clause-bytes : goal.returns-in-Ok-clause-bytes
returns-in-Ok-clause-bytes g c =
    let n = c.in-Ok.count in
    let new = c.read.new.out in
    let ok = c.args.buffer.now.ok.0 in
    let le : c.args.to ≤ length c.args.buffer.now.items = omega (arith, c.requires, ok) in
    let within : n ≤ length new = omega (arith, c.in-Ok.ensures.bound.0) in
    let room : length new ≡ vec_len c.args.buffer.now - c.args.to =
    omega (arith, c.requires, ok, c.deref_mut.ensures.len, c.read.auto) in
    let some : 0 < length new = omega (arith, room, c.requires) in (
      take n new,
      c.in-Ok.ensures.bytes.0,
      read_behind c.args.to (vec_len c.args.buffer.now) c.args.buffer.now.items c.deref_mut.result.now new _ _
          c.deref_mut.ensures.value le n within (omega (arith, within, room, c.requires)),
      sym c.in-Ok.ensures.bound.1,
      λ none. c.in-Ok.ensures.bytes.1 none some,
    )

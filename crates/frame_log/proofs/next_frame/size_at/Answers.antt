use Rattle.std.proofs.Common.{◌∙◌, refl, sym, drop, length-drop, arith}
use Rattle.frame_log.proofs.ReadLemmas.{if_some_both, if_some_three}
use Rattle.frame_log.proofs.FrameLemmas.{further, breaks_short, breaks_long}
use Rattle.frame_log.proofs.next_frame.size_at.Goals as goal

pub returns-then-len-gate-lt10-clause-refused : goal.returns-then-len-gate-lt10-clause-refused
returns-then-len-gate-lt10-clause-refused g c =
    let gate = c.args.gate in
    if_some_both (g.D.Disk.seen c.args.disk.now) c.requires.told c.requires.gate_open (λ image told opens.
    let bytes = image c.args.file in
    (refl, breaks_short (drop gate bytes) opens (omega (arith, told, c.if-len-gate-lt10.true, length-drop gate bytes))))

pub returns-then-size-len-clause-refused : goal.returns-then-size-len-clause-refused
returns-then-size-len-clause-refused g c =
    let gate = c.args.gate in
    let size = c.number_of-size.result in
    if_some_three (g.D.Disk.seen c.args.disk.now) c.requires.told c.requires.gate_open c.in_ok-fill.ensures.bytes
    (λ image told opens read.
    let bytes = image c.args.file in (
      refl,
      breaks_long (drop gate bytes) opens c.fill.new.out size (read ∙ further bytes gate 1 8)
          c.number_of-size.ensures.number
          (omega (arith, told, c.requires.len, length-drop gate bytes))
          (omega (arith, told, c.if-size-len.true, length-drop gate bytes)),
    ))

pub returns-clause-size : goal.returns-clause-size
returns-clause-size g c =
    let gate = c.args.gate in
    if_some_both (g.D.Disk.seen c.args.disk.now) c.requires.gate_open c.in_ok-fill.ensures.bytes (λ image opens read.
    let bytes = image c.args.file in
    record { opens = opens; spelled = sym (read ∙ further bytes gate 1 8) ∙ sym c.number_of-size.ensures.spelled })

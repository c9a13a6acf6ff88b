use Rattle.std.proofs.Common.{rules, ◌≡◌, ◌++◌, ◌∷◌, [], take, drop, refl, arith}
use Rattle.std.proofs.lemmas.List.{take-append-drop}
use Rattle.std.proofs.lemmas.Grind.{common_steps}
use Rattle.disk_model.specs.Logs.{MayCut}
use Rattle.disk_memory.specs.declared.change.Change.TheVariants.{Cut}
use Rattle.disk_model.proofs.LogsLemmas.{cut_same}
use Rattle.disk_memory.proofs.ChangesLemmas.{same_becomes, more_becomes, redone_more, undone_more}
use Rattle.disk_memory.proofs.log.MemoryLog.cut.Goals as goal

pub returns-in_err-lost-clause-crash : goal.returns-in_err-lost-clause-crash
returns-in_err-lost-clause-crash c =
    let s = c.args.self.now in
    same_becomes (MayCut c.args.len) s.pending.items s.pending.items s.sure.value.items refl (cut_same c.args.len)

pub returns-in_err-reserve-clause-crash : goal.returns-in_err-reserve-clause-crash
returns-in_err-reserve-clause-crash c =
    let s = c.args.self.now in
    same_becomes (MayCut c.args.len) s.pending.items c.reserve.new.self.items s.sure.value.items
    c.reserve.ensures.items (cut_same c.args.len)

pub invariant_of-self-2 : goal.invariant_of-self-2
invariant_of-self-2 c =
    let s = c.args.self.now in
    let change = Cut c.args.len c.in_ok-lost.lost in
    let more : c.push_reserved.new.self.items ≡ s.pending.items ++ change ∷ [] = cc in
    let now : c.truncate.new.self.items ≡ take c.args.len s.content.items = search rules in
    let lost : c.in_ok-lost.lost.items ≡ drop c.args.len s.content.items = grind (arith, common_steps) in
    record {
      redone = redone_more s.pending.items c.push_reserved.new.self.items change s.sure.value.items s.content.items
          c.truncate.new.self.items more s.redone now;
      undone = undone_more s.pending.items c.push_reserved.new.self.items change s.sure.value.items s.content.items
          c.truncate.new.self.items more s.undone (rw (now, lost) (take-append-drop c.args.len s.content.items));
      short = omega (arith, s.short, c.truncate.ensures.len);
    }

pub returns-clause-crash : goal.returns-clause-crash
returns-clause-crash c =
    let s = c.args.self.now in
    let change = Cut c.args.len c.in_ok-lost.lost in
    let more : c.push_reserved.new.self.items ≡ s.pending.items ++ change ∷ [] = cc in
    more_becomes (MayCut c.args.len) s.pending.items c.push_reserved.new.self.items change s.sure.value.items more
    (λ old new made. made)

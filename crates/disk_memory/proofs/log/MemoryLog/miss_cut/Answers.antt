use Rattle.std.proofs.Common.{◌≡◌, ◌++◌, ◌∷◌, [], refl}
use Rattle.disk_model.specs.Logs.{MayCut}
use Rattle.disk_memory.specs.declared.change.Change.TheVariants.{MissedCut}
use Rattle.disk_model.proofs.LogsLemmas.{cut_same}
use Rattle.disk_memory.proofs.ChangesLemmas.{same_becomes, more_becomes, redone_more, undone_more}
use Rattle.disk_memory.proofs.log.MemoryLog.miss_cut.Goals as goal

pub returns-in_err-reserve-clause-crash : goal.returns-in_err-reserve-clause-crash
returns-in_err-reserve-clause-crash c =
    let s = c.args.self.now in
    same_becomes (MayCut c.args.len) s.pending.items c.reserve.new.self.items s.sure.value.items
    c.reserve.ensures.items (cut_same c.args.len)

pub invariant_of-self-2 : goal.invariant_of-self-2
invariant_of-self-2 c =
    let s = c.args.self.now in
    let change = MissedCut c.args.len in
    let more : c.push_reserved.new.self.items ≡ s.pending.items ++ change ∷ [] = cc in
    record {
      redone = redone_more s.pending.items c.push_reserved.new.self.items change s.sure.value.items s.content.items
          s.content.items more s.redone refl;
      undone = undone_more s.pending.items c.push_reserved.new.self.items change s.sure.value.items s.content.items
          s.content.items more s.undone refl;
      short = s.short;
    }

pub returns-clause-crash : goal.returns-clause-crash
returns-clause-crash c =
    let s = c.args.self.now in
    let change = MissedCut c.args.len in
    let more : c.push_reserved.new.self.items ≡ s.pending.items ++ change ∷ [] = cc in
    more_becomes (MayCut c.args.len) s.pending.items c.push_reserved.new.self.items change s.sure.value.items more
    (λ old new made. made)

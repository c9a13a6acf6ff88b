use Rattle.std.proofs.Common.{rules, ◌≡◌, ◌++◌, ◌∷◌, [], ℕ, List, length, refl, subst}
use Rattle.disk_model.specs.Logs.{Torn}
use Rattle.disk_memory.specs.declared.change.Change.TheVariants.{MissedWrite}
use Rattle.disk_model.proofs.LogsLemmas.{torn_same}
use Rattle.disk_memory.proofs.ChangesLemmas.{same_becomes, more_becomes, redone_more, undone_more}
use Rattle.disk_memory.proofs.log.MemoryLog.miss_write.Goals as goal

pub returns-in_err-bytes-clause-crash : goal.returns-in_err-bytes-clause-crash
returns-in_err-bytes-clause-crash c =
    let s = c.args.self.now in
    same_becomes (Torn c.args.place (length c.args.bytes.now)) s.pending.items s.pending.items s.sure.value.items refl
    (torn_same c.args.place (length c.args.bytes.now))

pub returns-in_err-reserve-clause-crash : goal.returns-in_err-reserve-clause-crash
returns-in_err-reserve-clause-crash c =
    let s = c.args.self.now in
    same_becomes (Torn c.args.place (length c.args.bytes.now)) s.pending.items c.reserve.new.self.items
    s.sure.value.items c.reserve.ensures.items (torn_same c.args.place (length c.args.bytes.now))

pub invariant_of-self-2 : goal.invariant_of-self-2
invariant_of-self-2 c =
    let s = c.args.self.now in
    let change = MissedWrite c.args.place c.in_ok-bytes.bytes in
    let more : c.push_reserved.new.self.items ≡ s.pending.items ++ change ∷ [] = cc in
    record {
      redone = redone_more s.pending.items c.push_reserved.new.self.items change s.sure.value.items s.content.items
          s.content.items more s.redone refl;
      undone = undone_more s.pending.items c.push_reserved.new.self.items change s.sure.value.items s.content.items
          s.content.items more s.undone refl;
      short = s.short;
    }

pub returns-clause-crash : goal.returns-clause-crash
returns-clause-crash c =
    let s = c.args.self.now in
    let change = MissedWrite c.args.place c.in_ok-bytes.bytes in
    let more : c.push_reserved.new.self.items ≡ s.pending.items ++ change ∷ [] = cc in
    let copied : c.in_ok-bytes.bytes.items ≡ c.args.bytes.now = search rules in
    more_becomes (Torn c.args.place (length c.args.bytes.now)) s.pending.items c.push_reserved.new.self.items change
    s.sure.value.items more
    (λ old new made. subst (λ (bytes : List ℕ). Torn c.args.place (length bytes) old new) copied made)

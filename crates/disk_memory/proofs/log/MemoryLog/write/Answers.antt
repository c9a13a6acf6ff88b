use Rattle.std.proofs.Common.{◌^◌, ◌≤◌, ◌≡◌, ◌++◌, ◌∷◌, [], ℕ, List, length, refl, sym, ◌∙◌, ap, subst, arith}
use Rattle.disk_model.specs.Logs.{Torn, written_at}
use Rattle.disk_model.proofs.LogsLemmas.{torn_same}
use Rattle.disk_memory.proofs.ChangesLemmas.{same_becomes, more_becomes, redone_more, undone_more, redo_write, undo_write, makes_write, written_short}
use Rattle.disk_memory.specs.Changes.{IsWrite}
use Rattle.disk_memory.proofs.log.MemoryLog.write.Goals as goal

pub returns-in_err-change-clause-crash : goal.returns-in_err-change-clause-crash
returns-in_err-change-clause-crash c =
    let s = c.args.self.now in
    same_becomes (Torn c.args.place (length c.args.bytes.now)) s.pending.items s.pending.items s.sure.value.items refl
    (torn_same c.args.place (length c.args.bytes.now))

pub returns-in_err-reserve-clause-crash : goal.returns-in_err-reserve-clause-crash
returns-in_err-reserve-clause-crash c =
    let s = c.args.self.now in
    same_becomes (Torn c.args.place (length c.args.bytes.now)) s.pending.items c.reserve.new.self.items
    s.sure.value.items c.reserve.ensures.items (torn_same c.args.place (length c.args.bytes.now))

pub returns-in_err-put-clause-crash : goal.returns-in_err-put-clause-crash
returns-in_err-put-clause-crash c =
    let s = c.args.self.now in
    same_becomes (Torn c.args.place (length c.args.bytes.now)) s.pending.items c.reserve.new.self.items
    s.sure.value.items c.reserve.ensures.items (torn_same c.args.place (length c.args.bytes.now))

pub invariant_of-self-2 : goal.invariant_of-self-2
invariant_of-self-2 c =
    let s = c.args.self.now in
    let change = c.in_ok-change.change in
    let is : IsWrite c.args.place c.args.bytes.now s.content.items change = subst
    (λ (l : List ℕ). IsWrite c.args.place c.args.bytes.now l c.in_ok-change.change) c.deref.ensures.value
    c.in_ok-change.ensures in
    let more : c.push_reserved.new.self.items ≡ s.pending.items ++ change ∷ [] = cc in
    let now : c.put.new.content.items ≡ written_at s.content.items c.args.place c.args.bytes.now =
    c.in_ok-put.ensures.ok in
    let within : c.args.place ≤ length s.content.items = omega (arith, c.requires.place, s.content.ok.0) in
    record {
      redone = redone_more s.pending.items c.push_reserved.new.self.items change s.sure.value.items s.content.items
          c.put.new.content.items more s.redone
          (now ∙ sym (redo_write c.args.place c.args.bytes.now s.content.items change is));
      undone = undone_more s.pending.items c.push_reserved.new.self.items change s.sure.value.items s.content.items
          c.put.new.content.items more s.undone (undo_write c.args.place c.args.bytes.now s.content.items
          c.put.new.content.items change is within now);
      short = omega (
        arith,
        c.put.new.content.ok.0,
        ap length now,
        written_short s.content.items c.args.bytes.now
            c.args.place (2 ^ 62) within (omega (arith, s.short, s.content.ok.0)) c.requires.end,
      );
    }

pub returns-clause-crash : goal.returns-clause-crash
returns-clause-crash c =
    let s = c.args.self.now in
    let more : c.push_reserved.new.self.items ≡ s.pending.items ++ c.in_ok-change.change ∷ [] = cc in
    let is : IsWrite c.args.place c.args.bytes.now s.content.items c.in_ok-change.change = subst
    (λ (l : List ℕ). IsWrite c.args.place c.args.bytes.now l c.in_ok-change.change) c.deref.ensures.value
    c.in_ok-change.ensures in
    more_becomes (Torn c.args.place (length c.args.bytes.now)) s.pending.items c.push_reserved.new.self.items
    c.in_ok-change.change s.sure.value.items more
    (makes_write c.args.place c.args.bytes.now s.content.items c.in_ok-change.change is)

use Rattle.directory_reading.proofs.EntryLemmas.{entries_push, expects}
use Rattle.directory_reading.proofs.entries.EntriesRead.take.Goals as goal

pub returns : goal.returns
returns c = λ bodies has at.
    entries_push bodies c.args.self.now _ c.args.body.now c.in_ok-entry.entry c.args.gate has
    (expects c.args.self.now c.deref.result.now c.last_number-last.result c.args.body.now c.in_ok-entry.entry
    c.deref.ensures.value c.last_number-last.ensures c.in_ok-entry.ensures) at
    c.in_ok-push.ensures.items c.in_ok-push-2.ensures.items

use Rattle.std.proofs.Common.{◌∙◌, Option, ap, option_map, sym, take}
use Rattle.directory_meaning.specs.Bodies.{Numbered, last_of, past}
use Rattle.directory_reading.proofs.NumberLemmas.{last_push, past_more, past_same}
use Rattle.directory_reading.proofs.replay.last_past.Goals as goal
use Rattle.directory_reading.proofs.replay.last_past.Goals.{then-entry-checkpoint, else-entry-checkpoint}

pub loop-entry-preserved : goal.loop-entry-preserved
loop-entry-preserved c =
    let checkpoint = c.args.checkpoint in
    let entries = c.args.entries.now in
    let k = c.loop-entry.entry-index in
    let e = c.entry-item.result in
    elim c.if-entry-checkpoint.branch [
      | then-entry-checkpoint w ↦
          let more = past_more checkpoint entries k e c.loop-entry-test.true c.entry-item.is
          w.if-entry-checkpoint.true in
          w.last-is
          ∙ sym (ap (λ (o : Option Numbered). option_map (λ d. d.0) o) (last_push (past checkpoint (take k entries)) e))
          ∙ ap last_of (sym more)
      | else-entry-checkpoint w ↦
          let same = past_same checkpoint entries k e c.loop-entry-test.true c.entry-item.is
          w.if-entry-checkpoint.false in
          w.last-is ∙ c.loop-entry.invariant ∙ ap last_of (sym same)
    ]

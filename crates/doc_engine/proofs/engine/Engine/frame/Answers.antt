use Rattle.std.proofs.Common.{◌≡◌, ◌+◌, ◌∙◌, refl, arith, rules}
use Rattle.std.proofs.lemmas.Bool.{le-leb}
use Rattle.doc_engine.proofs.Expected.{both, expects_early, first_holds, second_holds}
use Rattle.doc_engine.proofs.Lengths.{ends_with, is_short}
use Rattle.doc_engine.proofs.engine.Engine.frame.Goals as goal
use Rattle.doc_engine.proofs.engine.Engine.frame.Goals.{then-end-ge-LONGEST_LOG-via-then-end-ge-LONGEST_LOG}
use Rattle.doc_engine.proofs.engine.Engine.frame.Goals.{then-end-ge-LONGEST_LOG-via-else-end-ge-LONGEST_LOG+then-self-ge-LAST_TIMESTAMP}

pub returns-then-end-ge-LONGEST_LOG-clause-refused : goal.returns-then-end-ge-LONGEST_LOG-clause-refused
returns-then-end-ge-LONGEST_LOG-clause-refused g c =
    let engine = c.args.self.now in
    let written = c.in_ok-body.ensures in
    let spelled = c.in_ok-frame.ensures ∙ c.deref.ensures.value ∙ written.written in (
      refl,
      ends_with engine.journal c.saturating_add-number.result (engine.front + 1) c.args.ops.now c.in_ok-frame.frame
          c.end_with-end.result c.end_with-end.ensures spelled,
      elim c.then-end-ge-LONGEST_LOG.branch [
        | then-end-ge-LONGEST_LOG-via-then-end-ge-LONGEST_LOG w ↦
            first_holds _ _ (le-leb _ _ w.if-end-ge-LONGEST_LOG.true)
        | then-end-ge-LONGEST_LOG-via-else-end-ge-LONGEST_LOG+then-self-ge-LAST_TIMESTAMP w ↦
            second_holds _ _ (le-leb _ _ w.if-self-ge-LAST_TIMESTAMP.true)
      ],
      is_short engine.journal (engine.front + 1) c.args.ops.now written.values,
    )

-- below the last timestamp the operations expect timestamps that were given out
pub returns-clause-room : goal.returns-clause-room
returns-clause-room g c =
    let engine = c.args.self.now in
    let written = c.in_ok-body.ensures in
    let number : c.saturating_add-number.result ≡ engine.front + 1 = omega arith in
    let is_entry = both _ _ c.requires.distinct
    (expects_early engine.live engine.front (omega arith) engine.stamps c.args.ops.now c.requires.agrees) in
    let spelled = written.spelled is_entry in
    let end = ends_with engine.journal c.saturating_add-number.result (engine.front + 1) c.args.ops.now
    c.in_ok-frame.frame c.end_with-end.result c.end_with-end.ensures
    (c.in_ok-frame.ensures ∙ c.deref.ensures.value ∙ written.written) in
    record {
      spelled = search rules;
      early = search rules;
      room = omega (arith, end);
      short = is_short engine.journal (engine.front + 1) c.args.ops.now written.values;
    }

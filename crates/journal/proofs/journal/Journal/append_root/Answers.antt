use Rattle.std.proofs.Common.{◌≡◌, ◌∙◌, Err, ap, refl, rules}
use Rattle.std.proofs.lemmas.Result.{err_from_is_err_and}
use Rattle.frame_log.specs.LogStates.{IsEmpty}
use Rattle.frame_log.specs.declared.state.State.TheVariants.{GateUnknown}
use Rattle.journal.specs.Calls.{broken_off_at}
use Rattle.journal.specs.JournalStates.{AreUp, root_log}
use Rattle.journal.specs.declared.broken_off.BrokenOff.TheVariants.{Root}
use Rattle.log_pair.specs.PairStates.{current_of}
use Rattle.journal.proofs.CallSteps.{appends_root, broken_known, broken_unknown, takes_other, takes_same, TakesRoot}
use Rattle.journal.proofs.journal.Journal.append_root.Goals as goal
use Rattle.journal.proofs.journal.Journal.append_root.Goals.{then-not-is_empty, else-not-is_empty, then-is_gate_unknown, else-is_gate_unknown}

-- the append failed
pub returns-in_err-result-clause-root : goal.returns-in_err-result-clause-root
returns-in_err-result-clause-root g c =
    let laws = g.met.D.Disk g.world.𝓛 g.world.𝓜 g.world.𝓡 ((λ s x. x), (λ x. x), (λ x. x), λ x. x) in
    let old = c.args.self.now in
    let mid = c.if-not-is_empty.self.1.1.0 in
    let log = current_of c.append-result.new.self in
    let up : AreUp old = c.in_ok-check_up.ensures.up in
    let takes : TakesRoot old mid = elim c.if-not-is_empty.branch [
      | then-not-is_empty w ↦
          let full : IsEmpty (root_log old) → ⊥ = search rules in
          rw w.self-is (takes_other old w.switch.new.self full w.switch.ensures.current w.switch.ensures.other)
      | else-not-is_empty w ↦
          let empty : IsEmpty (root_log old) = search rules in
          rw w.self-is (takes_same old old.roots empty refl)
    ] in
    let broken : c.if-is_gate_unknown.self.1.1.1.1.0 ≡ broken_off_at log.state Root old.broken_off =
    elim c.if-is_gate_unknown.branch [
      | then-is_gate_unknown w ↦
          let unknown : log.state ≡ GateUnknown = search rules in
          rw w.self-is (broken_unknown log.state Root old.broken_off unknown)
      | else-is_gate_unknown w ↦
          let known : log.state ≡ GateUnknown → ⊥ = search rules in
          rw w.self-is (broken_known log.state Root old.broken_off known)
    ] in
    let error = err_from_is_err_and c.from_residual-in_err-result.result c.from_residual-in_err-result.ensures.1 in
    let same : c.from_residual-in_err-result.result ≡ Err c.in_err-result.field-0.0 =
    error.1 ∙ ap (λ e. Err e) error.2 in
    rw same (record {
      appends = appends_root g.D.Disk old _ c.args.disk.now c.append-result.new.disk
          (laws.counts_now c.append-result.new.disk) mid takes c.args.frame.now _ up
          c.in_err-result.ensures.answer c.in_err-result.ensures.frames c.append-result.ensures.disk refl broken;
      other = λ _. c.append-result.ensures.other ∙ takes.rest;
      entries = refl;
      frozen = refl;
    })

-- the append is done
pub returns-clause-root : goal.returns-clause-root
returns-clause-root g c =
    let laws = g.met.D.Disk g.world.𝓛 g.world.𝓜 g.world.𝓡 ((λ s x. x), (λ x. x), (λ x. x), λ x. x) in
    let old = c.args.self.now in
    let mid = c.if-not-is_empty.self.1.1.0 in
    let log = current_of c.append-result.new.self in
    let up : AreUp old = c.in_ok-check_up.ensures.up in
    let takes : TakesRoot old mid = elim c.if-not-is_empty.branch [
      | then-not-is_empty w ↦
          let full : IsEmpty (root_log old) → ⊥ = search rules in
          rw w.self-is (takes_other old w.switch.new.self full w.switch.ensures.current w.switch.ensures.other)
      | else-not-is_empty w ↦
          let empty : IsEmpty (root_log old) = search rules in
          rw w.self-is (takes_same old old.roots empty refl)
    ] in
    let broken : c.if-is_gate_unknown.self.1.1.1.1.0 ≡ broken_off_at log.state Root old.broken_off =
    elim c.if-is_gate_unknown.branch [
      | then-is_gate_unknown w ↦
          let unknown : log.state ≡ GateUnknown = search rules in
          rw w.self-is (broken_unknown log.state Root old.broken_off unknown)
      | else-is_gate_unknown w ↦
          let known : log.state ≡ GateUnknown → ⊥ = search rules in
          rw w.self-is (broken_known log.state Root old.broken_off known)
    ] in
    record {
      appends = appends_root g.D.Disk old _ c.args.disk.now c.append-result.new.disk
          (laws.counts_now c.append-result.new.disk) mid takes c.args.frame.now _ up
          c.in_ok-result.ensures.answer c.in_ok-result.ensures.frames c.append-result.ensures.disk refl broken;
      other = λ _. c.append-result.ensures.other ∙ takes.rest;
      entries = refl;
      frozen = c.still_frozen-self.ensures;
    }

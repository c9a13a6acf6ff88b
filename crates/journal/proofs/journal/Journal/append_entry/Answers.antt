use Rattle.std.proofs.Common.{◌≡◌, refl, rules}
use Rattle.frame_log.specs.declared.state.State.TheVariants.{GateUnknown}
use Rattle.log_pair.specs.PairStates.{current_of}
use Rattle.journal.specs.JournalStates.{AreUp}
use Rattle.journal.proofs.CallSteps.{appends, broken_known, broken_unknown}
use Rattle.journal.proofs.journal.Journal.append_entry.Goals as goal

pub returns-then-is_gate_unknown-clause-entry : goal.returns-then-is_gate_unknown-clause-entry
returns-then-is_gate_unknown-clause-entry g c =
    let laws = g.met.D.Disk g.world.𝓛 g.world.𝓜 g.world.𝓡 ((λ s x. x), (λ x. x), (λ x. x), λ x. x) in
    let up : AreUp c.args.self.now = c.in_ok-check_up.ensures.up in
    let unknown : (current_of c.append-result.new.self).state ≡ GateUnknown = search rules in
    appends g.D.Disk c.args.self.now _ c.args.disk.now c.append-result.new.disk
    (laws.counts_now c.append-result.new.disk) c.args.frame.now c.append-result.result up
    c.append-result.ensures.answer c.append-result.ensures.frames c.append-result.ensures.disk refl
    c.append-result.ensures.other refl (broken_unknown _ _ _ unknown)

pub returns-else-is_gate_unknown-clause-entry : goal.returns-else-is_gate_unknown-clause-entry
returns-else-is_gate_unknown-clause-entry g c =
    let laws = g.met.D.Disk g.world.𝓛 g.world.𝓜 g.world.𝓡 ((λ s x. x), (λ x. x), (λ x. x), λ x. x) in
    let up : AreUp c.args.self.now = c.in_ok-check_up.ensures.up in
    let known : (current_of c.append-result.new.self).state ≡ GateUnknown → ⊥ = search rules in
    appends g.D.Disk c.args.self.now _ c.args.disk.now c.append-result.new.disk
    (laws.counts_now c.append-result.new.disk) c.args.frame.now c.append-result.result up
    c.append-result.ensures.answer c.append-result.ensures.frames c.append-result.ensures.disk refl
    c.append-result.ensures.other refl (broken_known _ _ _ known)

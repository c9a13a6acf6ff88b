use Rattle.std.proofs.Common.{◌≡◌, ◌∙◌, Err, ap, refl}
use Rattle.std.proofs.lemmas.Result.{err_from_is_err_and}
use Rattle.journal.proofs.Pairs.{entries_apart, same_place, spared_trimmed}
use Rattle.journal.proofs.Revivals.{revives_all, revives_first, revives_not}
use Rattle.journal.proofs.journal.Journal.revive.Goals as goal

-- the journals weren't brought back
pub returns-in_err-revive-clause-revives : goal.returns-in_err-revive-clause-revives
returns-in_err-revive-clause-revives g c =
    let laws = g.met.D.Disk g.world.𝓛 g.world.𝓜 g.world.𝓡 ((λ s x. x), (λ x. x), (λ x. x), λ x. x) in
    let error = err_from_is_err_and c.from_residual.result c.from_residual.ensures.1 in
    let same : c.from_residual.result ≡ Err c.in_err-revive.field-0.0 = error.1 ∙ ap (λ e. Err e) error.2 in
    rw same (revives_first g.D.Disk c.args.self.now _ c.args.disk.now c.revive.new.disk
    (laws.counts_now c.revive.new.disk) c.revive.ensures.disk refl _
    c.in_err-revive.ensures.answer c.in_err-revive.ensures.frames refl refl)

-- the root logs weren't
pub returns-in_err-revive-2-clause-revives : goal.returns-in_err-revive-2-clause-revives
returns-in_err-revive-2-clause-revives g c =
    let laws = g.met.D.Disk g.world.𝓛 g.world.𝓜 g.world.𝓡 ((λ s x. x), (λ x. x), (λ x. x), λ x. x) in
    let error = err_from_is_err_and c.from_residual-in_err-revive-2.result
    c.from_residual-in_err-revive-2.ensures.1 in
    let same : c.from_residual-in_err-revive-2.result ≡ Err c.in_err-revive-2.field-0.0 =
    error.1 ∙ ap (λ e. Err e) error.2 in
    rw same (revives_not g.D.Disk c.args.self.now _ c.args.disk.now c.revive.new.disk c.revive-2.new.disk
    (laws.counts_now c.revive.new.disk) (laws.counts_now c.revive-2.new.disk) c.revive.ensures.disk
    c.revive-2.ensures.disk _ c.in_ok-revive.ensures.answer c.in_ok-revive.ensures.frames refl _
    c.in_err-revive-2.ensures.answer c.in_err-revive-2.ensures.frames refl)

pub returns-clause-revives : goal.returns-clause-revives
returns-clause-revives g c =
    let laws = g.met.D.Disk g.world.𝓛 g.world.𝓜 g.world.𝓡 ((λ s x. x), (λ x. x), (λ x. x), λ x. x) in
    revives_all g.D.Disk c.args.self.now _ c.args.disk.now c.revive.new.disk c.revive-2.new.disk
    (laws.counts_now c.revive.new.disk) (laws.counts_now c.revive-2.new.disk) c.revive.ensures.disk
    c.revive-2.ensures.disk _ c.in_ok-revive.ensures.answer c.in_ok-revive.ensures.frames refl _
    c.in_ok-revive-2.ensures.answer c.in_ok-revive-2.ensures.frames refl

pub returns-clause-trimmed : goal.returns-clause-trimmed
returns-clause-trimmed g c =
    let laws = g.met.D.Disk g.world.𝓛 g.world.𝓜 g.world.𝓡 ((λ s x. x), (λ x. x), (λ x. x), λ x. x) in (
      spared_trimmed g.D.Disk c.revive-2.new.self c.revive.new.self c.revive.new.disk c.revive-2.new.disk
          (laws.counts_now c.revive-2.new.disk)
          (entries_apart c.revive.new.self c.revive-2.new.self (same_place c.revive.new.self c.args.self.now.entries
          c.revive.ensures.answer.current c.revive.ensures.answer.other ∙ c.args.self.now.journals)
          (same_place c.revive-2.new.self c.args.self.now.roots c.revive-2.ensures.answer.current
          c.revive-2.ensures.answer.other
          ∙ c.args.self.now.root_logs))
          c.revive-2.ensures.disk.others c.in_ok-revive.ensures.trimmed,
      c.in_ok-revive-2.ensures.trimmed,
    )

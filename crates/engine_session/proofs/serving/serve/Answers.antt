use denote.Param.Always.{mut_total}
use denote.Param.Send.{Quiet-if}
use mir.Syntax.{of_param}
use Rattle.engine_session.proofs.Calling.{attended_by, stays_by}
use Rattle.engine_session.proofs.Crashing.{leaves_now}
use Rattle.engine_session.proofs.Ending.{has_ended}
use Rattle.engine_session.proofs.serving.serve.Goals as goal

pub session-how-requires-after_bounds : goal.session-how-requires-after_bounds
session-how-requires-after_bounds g c κs within =
    let bounds = c.type_bounds in
    mut_total _ _ (λ s a. (
      record { owned = bounds.send-D.owned; leaving = λ k. Quiet-if (k (of_param 0)) _ _ (λ x w. tt) (λ x w. tt) },
      record { owned = bounds.send-Y.owned; leaving = λ k. Quiet-if (k (of_param 1)) _ _ (λ x w. tt) (λ x w. tt) },
      record { owned = bounds.send-Y-File.owned; leaving = λ k. Quiet-if (k (of_param 2)) _ _ (λ x w. tt) (λ x w. tt) },
      record {
        owned = bounds.send-Y-Build.owned;
        leaving = λ k. Quiet-if (k (of_param 3)) _ _ (λ x w. tt) (λ x w. tt);
      },
      record { shared = bounds.sync-Y-File.shared },
    ))

pub returns-clause-serves : goal.returns-clause-serves
returns-clause-serves g c =
    let laws = g.met.D.Disk g.world.𝓛 g.world.𝓜 g.world.𝓡 ((λ s x. x), (λ x. x), (λ x. x), λ x. x) in
    let now = leaves_now g.D.Disk laws.only_now laws.counts_now in
    let (input, output, over, consumed, appended, at_end, serves) = c.session-how.ensures.serves in
    record {
      input = input;
      output = output;
      over = over;
      consumed = consumed;
      appended = appended;
      at_end = at_end;
      ended = has_ended _ _ _ input output c.session-how.result over serves;
      read_fault = c.session-how.ensures.read_fault;
      write_fault = c.session-how.ensures.write_fault;
      attended = λ base longest is_at up short. attended_by now _ _ _ input output c.session-how.result over serves
          (λ f p asked said q f' met. met.1.0) base longest is_at up short;
    }

pub returns-clause-yard : goal.returns-clause-yard
returns-clause-yard g c =
    let laws = g.met.D.Disk g.world.𝓛 g.world.𝓜 g.world.𝓡 ((λ s x. x), (λ x. x), (λ x. x), λ x. x) in
    let now = leaves_now g.D.Disk laws.only_now laws.counts_now in
    let (input, output, over, came, went, at_end, serves) = c.session-how.ensures.serves in
    (stays_by now _ _ _ input output c.session-how.result over serves
    (λ f p asked said q f' met. met.1.0)).yard

pub returns-clause-later : goal.returns-clause-later
returns-clause-later g c =
    let laws = g.met.D.Disk g.world.𝓛 g.world.𝓜 g.world.𝓡 ((λ s x. x), (λ x. x), (λ x. x), λ x. x) in
    let now = leaves_now g.D.Disk laws.only_now laws.counts_now in
    let (input, output, over, came, went, at_end, serves) = c.session-how.ensures.serves in
    (stays_by now _ _ _ input output c.session-how.result over serves
    (λ f p asked said q f' met. met.1.0)).later

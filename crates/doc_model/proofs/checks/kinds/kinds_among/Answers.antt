use Rattle.std.proofs.Common.{◌+◌, ◌++◌, Some, None, drop, sym, ◌∙◌, subst}
use Rattle.doc_model.specs.declared.checks.kinds.Kinds.{Kinds}
use Rattle.doc_model.specs.Kinds.{FindAlike, listed}
use Rattle.doc_model.specs.Queries.{kinds_of}
use Rattle.doc_model.proofs.KindsLemmas.{grown, kinds_from}
use Rattle.doc_model.proofs.checks.kinds.kinds_among.Goals as goal
use Rattle.doc_model.proofs.checks.kinds.kinds_among.Goals.{in-Some, in_default}

pub loop-value-preserved : goal.loop-value-preserved
loop-value-preserved c =
    let items = c.as_slice-value-items.result.now in
    let rest = kinds_of (drop (c.loop-value.value-index + 1) items) in
    elim c.match-kind_of.branch [
      | in-Some w ↦
          subst (λ (ks : Kinds). FindAlike (listed ks ++ rest) (kinds_of c.args.values.now)) (sym w.kinds-is)
          (grown _ (listed c.loop-value.kinds) w.in-Some.kind rest _ _ w.with_kind-kinds.ensures
          (kinds_from items c.loop-value.value-index c.value-item.result (Some w.in-Some.kind) c.loop-value-test.true
          c.value-item.is (sym w.in-Some.ensures)) c.loop-value.invariant)
      | in_default w ↦
          subst (λ (ks : Kinds). FindAlike (listed ks ++ rest) (kinds_of c.args.values.now)) (sym w.kinds-is)
          (subst (λ ks. FindAlike (listed c.loop-value.kinds ++ ks) (kinds_of c.args.values.now))
          (kinds_from items c.loop-value.value-index c.value-item.result None c.loop-value-test.true c.value-item.is
          (sym c.kind_of.ensures ∙ w.in_default.is)) c.loop-value.invariant)
    ]

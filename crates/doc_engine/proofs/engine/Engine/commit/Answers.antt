use Rattle.std.proofs.Common.{◌≤◌, ◌+◌, Some, ap, arith, refl, subst, sym, ◌∙◌}
use Rattle.std.proofs.Math.Logic.{∥∥₁_elim, ∥∥₁_map}
use Rattle.std.proofs.Props.{props}
use Rattle.std.proofs.lemmas.Result.{err_from_is_err_and}
use Rattle.disk_model.specs.Causes.{Rose}
use Rattle.doc_engine.proofs.Appending.{all_up, breaks, err_of, fits, ok_of}
use Rattle.doc_engine.proofs.Entered.{goes_on, reply_entered}
use Rattle.doc_engine.proofs.Entering.{IsNoFault, breaks_off, enters, refused_enters}
use Rattle.doc_engine.proofs.Refusing.{check_is_no_fault, room_is_no_fault}
use Rattle.doc_engine.proofs.Same.{if_unchanged, unchanged}
use Rattle.doc_engine.proofs.Stamps.{later_by, ops_by}
use Rattle.doc_engine.specs.Checks.{end_with}
use Rattle.doc_engine.specs.Created.{CreatedBy}
use Rattle.doc_engine.specs.EngineState.{down_since, read_state}
use Rattle.doc_model.specs.declared.entry.Entry.TheVariants.{Commit}
use Rattle.journal_bodies.specs.Entries.{SpellsEntry}
use Rattle.doc_meaning.specs.declared.replies.CommitReply.TheVariants.{Entered}
use Rattle.doc_engine.proofs.engine.Engine.commit.Goals as goal

-- the operations may not be entered
pub returns-in_err-check-clause-crash : goal.returns-in_err-check-clause-crash
returns-in_err-check-clause-crash g c files h is represents =
    let laws = g.met.D.Disk g.world.𝓛 g.world.𝓜 g.world.𝓡 ((λ s x. x), (λ x. x), (λ x. x), λ x. x) in
    let engine = c.args.self.now in
    let error = err_from_is_err_and c.from_residual.result c.from_residual.ensures.1 in
    let other = check_is_no_fault (read_state engine) (down_since engine) c.args.ops c.in_err-check.field-0.0
    c.in_err-check.ensures.refused in
    refused_enters g.D.Disk files engine.journal engine.disk h
    c.args.ops c.from_residual.result error.0 error.1 (subst IsNoFault (sym error.2) other)
    (laws.only_now engine.disk) represents

-- there is no room, or no memory for the frame
pub returns-in_err-frame-clause-crash : goal.returns-in_err-frame-clause-crash
returns-in_err-frame-clause-crash g c files h is represents =
    let laws = g.met.D.Disk g.world.𝓛 g.world.𝓜 g.world.𝓡 ((λ s x. x), (λ x. x), (λ x. x), λ x. x) in
    let engine = c.args.self.now in
    let result = c.from_residual-in_err-frame.result in
    let error = err_from_is_err_and result c.from_residual-in_err-frame.ensures.1 in
    let other = room_is_no_fault engine.front engine.journal c.args.ops c.in_err-frame.field-0.0
    c.in_err-frame.ensures.refused in
    refused_enters g.D.Disk files engine.journal engine.disk h
    c.args.ops result error.0 error.1 (subst IsNoFault (sym error.2) other) (laws.only_now engine.disk) represents

-- there is no memory for what is staged
pub returns-in_err-staged-clause-crash : goal.returns-in_err-staged-clause-crash
returns-in_err-staged-clause-crash g c files h is represents =
    let laws = g.met.D.Disk g.world.𝓛 g.world.𝓜 g.world.𝓡 ((λ s x. x), (λ x. x), (λ x. x), λ x. x) in
    let engine = c.args.self.now in
    let result = c.from_residual-in_err-staged.result in
    let error = err_from_is_err_and result c.from_residual-in_err-staged.ensures.1 in
    refused_enters g.D.Disk files engine.journal engine.disk h
    c.args.ops result error.0 error.1 (subst IsNoFault (sym error.2) tt) (laws.only_now engine.disk) represents

pub invariant_of-self : goal.invariant_of-self
invariant_of-self g c =
    let engine = c.args.self.now in
    record {
      within = engine.within;
      up = engine.up;
      early = engine.early;
      stamps = subst (CreatedBy engine.front) (sym c.in_err-staged.ensures.err) engine.stamps;
    }

pub returns-in_err-staged-clause-unchanged : goal.returns-in_err-staged-clause-unchanged
returns-in_err-staged-clause-unchanged g c =
    if_unchanged _ (unchanged c.args.self.now c.stage.new.self c.in_err-staged.ensures.err _ _ _ _)

-- the disk failed
pub invariant_of-self-then-is_err : goal.invariant_of-self-then-is_err
invariant_of-self-then-is_err g c =
    let engine = c.args.self.now in
    let back = c.take_back.ensures ∙ c.in_ok-staged.ensures.before in
    record {
      within = c.append_entry.ensures.within;
      up = ∣ (λ none. absurd (cc none)) ∣₁;
      early = λ broken. omega (arith, c.in_ok-frame.ensures.room.early);
      stamps = subst (CreatedBy engine.front) (sym back) engine.stamps;
    }

pub returns-then-is_err-clause-answers : goal.returns-then-is_err-clause-answers
returns-then-is_err-clause-answers g c =
    let engine = c.args.self.now in
    let now = c.append_entry.new.disk in
    let may = c.in_ok-check.ensures.may in
    let early = c.in_ok-frame.ensures.room.early in
    let room = fits engine.front engine.journal c.args.ops c.in_ok-frame.frame c.in_ok-frame.ensures.room in
    let back = c.take_back.ensures ∙ c.in_ok-staged.ensures.before in
    let entry = c.append_entry.ensures.entry in
    let err = err_of c.append_entry.result (sym c.is_err.ensures.value ∙ c.if-is_err.true) in
    let rises : IsProp (Rose (g.D.Disk.faults engine.disk) (g.D.Disk.faults now)) = hlevel props in
    let rose = ∥∥₁_elim engine.up rises (λ up. (breaks g.D.Disk c.in_ok-frame.frame engine.journal
    c.append_entry.new.self engine.disk now c.append_entry.result entry (up may.up) err.0 err.1 room).1) in
    let stays : IsProp (g.D.Disk.faults engine.disk ≤ g.D.Disk.faults now) = hlevel props in
    record {
      reply = λ h is. tt;
      goes_on = λ h is. record {
        front = is.front;
        merge = is.merge;
        settings = is.settings;
        documents = back ∙ is.documents;
      };
      would = λ h is.
          sym (reply_entered (read_state engine) h c.args.ops 0 is may.once may.agrees (omega arith) early)
          ∙ ap (λ n. Entered (n + 1)) is.front;
      cause = (may.up, rose, ap Some c.faults.ensures);
      later = ∥∥₁_elim engine.up stays (λ up. (entry.appends.answer (up may.up)).later);
    }

pub returns-then-is_err-clause-crash : goal.returns-then-is_err-clause-crash
returns-then-is_err-clause-crash g c files h is represents =
    let engine = c.args.self.now in
    let new = c.append_entry.new.self in
    let now = c.append_entry.new.disk in
    let frame = c.in_ok-frame.frame in
    let entry = c.append_entry.ensures.entry in
    let room = fits engine.front engine.journal c.args.ops frame c.in_ok-frame.ensures.room in
    let err = err_of c.append_entry.result (sym c.is_err.ensures.value ∙ c.if-is_err.true) in
    let broken = breaks g.D.Disk frame engine.journal new engine.disk now c.append_entry.result entry represents.up
    err.0 err.1 room in
    let spelled = subst (λ n. SpellsEntry frame (n + 1) (Commit c.args.ops)) is.front
    c.in_ok-frame.ensures.room.spelled in
    breaks_off g.D.Disk files engine.journal new engine.disk now h c.args.ops frame spelled
    c.in_ok-check.ensures.may.distinct represents c.append_entry.result entry err.0 err.1 broken.0.0

-- the frame was added
pub invariant_of-self-2 : goal.invariant_of-self-2
invariant_of-self-2 g c =
    let engine = c.args.self.now in
    let done = c.settle.ensures ∙ c.in_ok-staged.ensures.after in
    let ok = ok_of c.append_entry.result (sym c.is_err.ensures.value ∙ c.if-is_err.false) in
    let later = later_by engine.front (engine.front + 1) engine.live (omega arith) engine.stamps in
    record {
      within = c.append_entry.ensures.within;
      up = ∥∥₁_map engine.up (λ were none. all_up g.D.Disk c.in_ok-frame.frame engine.journal c.append_entry.new.self
          engine.disk c.append_entry.new.disk c.append_entry.result c.append_entry.ensures.entry (were none) ok);
      early = λ broken. omega (arith, c.in_ok-frame.ensures.room.early);
      stamps = subst (CreatedBy (engine.front + 1)) (sym done)
          (ops_by (engine.front + 1) c.args.ops engine.live later);
    }

pub returns-clause-answers : goal.returns-clause-answers
returns-clause-answers g c =
    let engine = c.args.self.now in
    let may = c.in_ok-check.ensures.may in
    let room = c.in_ok-frame.ensures.room in
    let end = end_with engine.journal (engine.front + 1) c.args.ops in
    let done = c.settle.ensures ∙ c.in_ok-staged.ensures.after in
    let stays : IsProp (g.D.Disk.faults engine.disk ≤ g.D.Disk.faults c.append_entry.new.disk) = hlevel props in
    record {
      reply = λ h is. reply_entered (read_state engine) h c.args.ops end is may.once may.agrees room.room room.early;
      goes_on = λ h is. goes_on (read_state engine) _ h c.args.ops is refl refl refl done;
      would = λ h is. tt;
      cause = (may.up, may.up);
      later = ∥∥₁_elim engine.up stays (λ up. (c.append_entry.ensures.entry.appends.answer (up may.up)).later);
    }

pub returns-clause-crash : goal.returns-clause-crash
returns-clause-crash g c files h is represents =
    let engine = c.args.self.now in
    let frame = c.in_ok-frame.frame in
    let ok = ok_of c.append_entry.result (sym c.is_err.ensures.value ∙ c.if-is_err.false) in
    let spelled = subst (λ n. SpellsEntry frame (n + 1) (Commit c.args.ops)) is.front
    c.in_ok-frame.ensures.room.spelled in
    enters g.D.Disk files engine.journal c.append_entry.new.self engine.disk c.append_entry.new.disk h c.args.ops
    frame spelled c.in_ok-check.ensures.may.distinct represents c.append_entry.result c.append_entry.ensures.entry
    (engine.front + 1) ok

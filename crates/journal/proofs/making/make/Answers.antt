use Rattle.std.proofs.Common.{◌∙◌, sym, arith}
use Rattle.frame_log.proofs.ReadLemmas.{if_some_both}
use Rattle.journal.proofs.MakeReads.{has_no_root, has_root, where_told, where_used}
use Rattle.journal.proofs.Makes.{blank_shown, first_cause, first_images, made, made_up, made_whole}
use Rattle.journal.proofs.making.make.Goals as goal

-- a root log has a root
pub returns-then-is_some-clause-refused : goal.returns-then-is_some-clause-refused
returns-then-is_some-clause-refused g c = record {
  reason = has_root g.D.Disk _ _ c.in_ok-roots.roots c.in_ok-roots.ensures.found (sym c.is_some.ensures ∙ c.if-is_some.true);
  kept = λ other. c.read_root_logs.ensures.read;
}

-- the journals weren't emptied
pub returns-in_err-journal-clause-images : goal.returns-in_err-journal-clause-images
returns-in_err-journal-clause-images g c told =
    let none = has_no_root g.D.Disk _ _ c.in_ok-roots.roots c.in_ok-roots.ensures.found (sym c.is_some.ensures ∙ c.if-is_some.false) in
    blank_shown g.D.Disk c.args.settings.now _ _ _ c.read_root_logs.ensures.read
    (where_told _ (g.D.Disk.seen c.args.disk.now) _ c.read_root_logs.ensures.read.same told none
    c.empty_journal.ensures.images)

pub returns-in_err-journal-clause-used : goal.returns-in_err-journal-clause-used
returns-in_err-journal-clause-used g c =
    where_used _ (g.D.Disk.seen c.args.disk.now)
    (has_no_root g.D.Disk _ _ c.in_ok-roots.roots c.in_ok-roots.ensures.found (sym c.is_some.ensures ∙ c.if-is_some.false))

-- the first root wasn't appended
pub returns-in_err-append_root-clause-images : goal.returns-in_err-append_root-clause-images
returns-in_err-append_root-clause-images g c told =
    let none = has_no_root g.D.Disk _ _ c.in_ok-roots.roots c.in_ok-roots.ensures.found (sym c.is_some.ensures ∙ c.if-is_some.false) in
    let same = c.read_root_logs.ensures.read.same in
    first_images g.D.Disk c.args.settings.now c.in_ok-frame.frame c.in_ok-frame.ensures
    c.in_ok-journal.journal c.append_root.new.self c.empty_journal.new.disk c.append_root.new.disk
    c.in_ok-journal.ensures.journal c.append_root.result c.append_root.ensures.root c.args.disk.now
    (where_told _ (g.D.Disk.seen c.args.disk.now) _ same told none c.in_ok-journal.ensures.represents)
    (blank_shown g.D.Disk c.args.settings.now _ _ _ c.read_root_logs.ensures.read
    (where_told _ (g.D.Disk.seen c.args.disk.now) _ same told none c.empty_journal.ensures.images))

pub returns-in_err-append_root-clause-used : goal.returns-in_err-append_root-clause-used
returns-in_err-append_root-clause-used g c =
    where_used _ (g.D.Disk.seen c.args.disk.now)
    (has_no_root g.D.Disk _ _ c.in_ok-roots.roots c.in_ok-roots.ensures.found (sym c.is_some.ensures ∙ c.if-is_some.false))

pub returns-in_err-append_root-clause-cause : goal.returns-in_err-append_root-clause-cause
returns-in_err-append_root-clause-cause g c =
    first_cause g.D.Disk c.args.settings.now c.in_ok-frame.frame c.in_ok-frame.ensures
    c.in_ok-journal.journal c.append_root.new.self c.empty_journal.new.disk c.append_root.new.disk
    c.in_ok-journal.ensures.journal c.args.disk.now c.in_err-append_root.field-0.0
    c.from_residual-in_err-append_root.result
    (omega (arith, c.read_root_logs.ensures.cause.later, c.empty_journal.ensures.cause.later))
    c.in_err-append_root.ensures.root c.from_residual-in_err-append_root.ensures.1

-- the logs are made
pub returns-clause-made : goal.returns-clause-made
returns-clause-made g c =
    let none = has_no_root g.D.Disk _ _ c.in_ok-roots.roots c.in_ok-roots.ensures.found (sym c.is_some.ensures ∙ c.if-is_some.false) in
    let same = c.read_root_logs.ensures.read.same in
    let empty = c.in_ok-journal.ensures.journal in
    let appends = c.in_ok-append_root.ensures.root in
    record {
      made = if_some_both (g.D.Disk.seen c.args.disk.now) none (rw same at c.in_ok-journal.ensures.represents)
          (λ image bare go. (
            bare,
            made g.D.Disk c.args.settings.now c.in_ok-frame.frame c.in_ok-frame.ensures
                c.in_ok-journal.journal c.append_root.new.self c.empty_journal.new.disk c.append_root.new.disk empty _
                appends (go bare),
          ));
      up = made_up g.D.Disk c.args.settings.now c.in_ok-frame.frame c.in_ok-frame.ensures
          c.in_ok-journal.journal c.append_root.new.self c.empty_journal.new.disk c.append_root.new.disk empty _ appends;
      whole = made_whole g.D.Disk c.args.settings.now c.in_ok-frame.frame c.in_ok-frame.ensures
          c.in_ok-journal.journal c.append_root.new.self c.empty_journal.new.disk c.append_root.new.disk empty _ appends;
      within = c.append_root.ensures.within;
    }

pub returns-clause-images : goal.returns-clause-images
returns-clause-images g c told =
    let none = has_no_root g.D.Disk _ _ c.in_ok-roots.roots c.in_ok-roots.ensures.found (sym c.is_some.ensures ∙ c.if-is_some.false) in
    let same = c.read_root_logs.ensures.read.same in
    first_images g.D.Disk c.args.settings.now c.in_ok-frame.frame c.in_ok-frame.ensures
    c.in_ok-journal.journal c.append_root.new.self c.empty_journal.new.disk c.append_root.new.disk
    c.in_ok-journal.ensures.journal c.append_root.result c.append_root.ensures.root c.args.disk.now
    (where_told _ (g.D.Disk.seen c.args.disk.now) _ same told none c.in_ok-journal.ensures.represents)
    (blank_shown g.D.Disk c.args.settings.now _ _ _ c.read_root_logs.ensures.read
    (where_told _ (g.D.Disk.seen c.args.disk.now) _ same told none c.empty_journal.ensures.images))

pub returns-clause-used : goal.returns-clause-used
returns-clause-used g c =
    where_used _ (g.D.Disk.seen c.args.disk.now)
    (has_no_root g.D.Disk _ _ c.in_ok-roots.roots c.in_ok-roots.ensures.found (sym c.is_some.ensures ∙ c.if-is_some.false))

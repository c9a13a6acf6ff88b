use Rattle.std.proofs.Common.{IsSome, refl}
use Rattle.disk_model.specs.Changes.{Any}
use Rattle.frame_log.proofs.Changes.{told_after}
use Rattle.journal.proofs.Blanks.{bare_images, entries_represent, if_told, roots_represent}
use Rattle.journal.proofs.making.empty_journal.Goals as goal

pub returns-in_err-journal_1-clause-images : goal.returns-in_err-journal_1-clause-images
returns-in_err-journal_1-clause-images g c =
    let laws = g.met.D.Disk g.world.𝓛 g.world.𝓜 g.world.𝓡 ((λ s x. x), (λ x. x), (λ x. x), λ x. x) in
    if_told (g.D.Disk.seen c.args.disk.now) (λ image is none.
    let told : IsSome (g.D.Disk.seen c.args.disk.now) = rw is refl in
    let known : IsSome (g.D.Disk.seen c.settle.new.disk) = rw (c.settle.ensures.seen, is) refl in
    bare_images g.D.Disk laws.counts_now _ _ _ _ _ image is none
    (c.settle.ensures.read told) (c.settle-2.ensures.read known) c.in_ok-settle.ensures.settled
    c.in_ok-settle-2.ensures.settled c.blank.ensures.others c.blank-2.ensures.others)

pub returns-clause-images : goal.returns-clause-images
returns-clause-images g c =
    let laws = g.met.D.Disk g.world.𝓛 g.world.𝓜 g.world.𝓡 ((λ s x. x), (λ x. x), (λ x. x), λ x. x) in
    if_told (g.D.Disk.seen c.args.disk.now) (λ image is none.
    let told : IsSome (g.D.Disk.seen c.args.disk.now) = rw is refl in
    let known : IsSome (g.D.Disk.seen c.settle.new.disk) = rw (c.settle.ensures.seen, is) refl in
    bare_images g.D.Disk laws.counts_now _ _ _ _ _ image is none
    (c.settle.ensures.read told) (c.settle-2.ensures.read known) c.in_ok-settle.ensures.settled
    c.in_ok-settle-2.ensures.settled c.blank.ensures.others c.blank-2.ensures.others)

pub returns-clause-represents : goal.returns-clause-represents
returns-clause-represents g c =
    let laws = g.met.D.Disk g.world.𝓛 g.world.𝓜 g.world.𝓡 ((λ s x. x), (λ x. x), (λ x. x), λ x. x) in
    if_told (g.D.Disk.seen c.args.disk.now) (λ image is none.
    let told : IsSome (g.D.Disk.seen c.args.disk.now) = rw is refl in
    let known : IsSome (g.D.Disk.seen c.settle.new.disk) = rw (c.settle.ensures.seen, is) refl in
    let also : IsSome (g.D.Disk.seen c.settle-2.new.disk) =
    rw (c.settle-2.ensures.seen, c.settle.ensures.seen, is) refl in
    let more : IsSome (g.D.Disk.seen c.blank.new.disk) =
    told_after 0 Any _ _ c.blank.ensures.others.reads also in (
      entries_represent g.D.Disk laws.counts_now _ _ _ _ _ image is none
          (c.settle.ensures.read told) (c.settle-2.ensures.read known) c.in_ok-settle.ensures.settled
          c.in_ok-settle-2.ensures.settled c.blank.ensures.others c.blank-2.ensures.others c.new.result _ _
          c.new.ensures.0 c.new.ensures.1 c.in_ok-journal_0.ensures.log.0 (c.in_ok-journal_0.ensures.empty also)
          (c.in_ok-journal_1.ensures.empty more),
      roots_represent g.D.Disk laws.counts_now _ _ _ _ _ image is none
          (c.settle.ensures.read told) (c.settle-2.ensures.read known) c.in_ok-settle.ensures.settled
          c.in_ok-settle-2.ensures.settled c.blank.ensures.others c.blank-2.ensures.others c.new-2.result _ _
          c.new-2.ensures.0 c.new-2.ensures.1 c.requires.files c.requires.up c.requires.empty,
    ))

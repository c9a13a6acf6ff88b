use Rattle.std.proofs.Common.{◌∙◌, ap, IfSome, ◌≡◌, ◌≤◌, ℕ, List, length, inl, ⊎_elim, arith}
use Rattle.std.proofs.lemmas.List.{length-take}
use Rattle.disk_model.specs.Logs.{Cuts, MayCut}
use Rattle.disk_model.proofs.LogsLemmas.{cut_same}
use Rattle.disk_model.proofs.MomentsLemmas.{throughout_first, throughout_more}
use Rattle.disk_model.specs.Stretches.{Changed}
use Rattle.frame_log.proofs.Changes.{becomes_so, reaches, OneLog, becomes_any, one_log, one_change, one_log_more, one_log_same, settled_change}
use Rattle.frame_log.proofs.ReadLemmas.{if_some_both}
use Rattle.frame_log.proofs.device.truncate_synced.Goals as goal

cut_longer : (len : ℕ) (a b : List ℕ) → Cuts len a b → len ≤ length a → len ≤ length b
cut_longer len a b is long = rw is (omega (arith, long, length-take len a))

may_cut_longer : (len : ℕ) (a b : List ℕ) → MayCut len a b → len ≤ length a → len ≤ length b
may_cut_longer len a b may long = ⊎_elim (λ is. cut_longer len a b is long) (λ (same : b ≡ a). rw same long) may

cut_done : (len : ℕ) (a b : List ℕ) → Cuts len a b → MayCut len a b
cut_done len a b is = inl is

pub returns-in_err-cut-clause-longer : goal.returns-in_err-cut-clause-longer
returns-in_err-cut-clause-longer g c =
    reaches c.args.file c.args.len c.args.len (MayCut c.args.len) _ _ (may_cut_longer c.args.len)
    c.in_err-cut.ensures.broken c.requires.len

pub returns-in_err-sync-clause-longer : goal.returns-in_err-sync-clause-longer
returns-in_err-sync-clause-longer g c =
    rw c.sync.ensures.seen (reaches c.args.file c.args.len c.args.len (Cuts c.args.len) _ _ (cut_longer c.args.len)
    c.in_ok-cut.ensures.cut c.requires.len)

pub returns-clause-longer : goal.returns-clause-longer
returns-clause-longer g c =
    rw c.sync.ensures.seen (reaches c.args.file c.args.len c.args.len (Cuts c.args.len) _ _ (cut_longer c.args.len)
    c.in_ok-cut.ensures.cut c.requires.len)

pub returns-in_err-cut-clause-others : goal.returns-in_err-cut-clause-others
returns-in_err-cut-clause-others g c =
    let laws = g.met.D.Disk g.world.𝓛 g.world.𝓜 g.world.𝓡 ((λ s x. x), (λ x. x), (λ x. x), λ x. x) in
    record {
      reads = becomes_any c.args.file (MayCut c.args.len) _ _ c.in_err-cut.ensures.broken;
      images = throughout_first _ _ _ _ _ _ (OneLog c.args.file (g.D.Disk.may_leave c.args.disk.now))
          (laws.only_now c.args.disk.now) c.cut.ensures.time
          (one_log_same c.args.file _) (one_log c.args.file _ _ _ c.cut.ensures.crash);
    }

pub returns-in_err-sync-clause-others : goal.returns-in_err-sync-clause-others
returns-in_err-sync-clause-others g c =
    let laws = g.met.D.Disk g.world.𝓛 g.world.𝓜 g.world.𝓡 ((λ s x. x), (λ x. x), (λ x. x), λ x. x) in
    let first = throughout_first _ _ _ _ _ _ (OneLog c.args.file (g.D.Disk.may_leave c.args.disk.now))
    (laws.only_now c.args.disk.now) c.cut.ensures.time
    (one_log_same c.args.file _) (one_log c.args.file _ _ _ c.cut.ensures.crash) in
    record {
      reads = rw c.sync.ensures.seen (becomes_any c.args.file (Cuts c.args.len) _ _ c.in_ok-cut.ensures.cut);
      images = throughout_more _ _ _ _ _ _ _ _ first c.sync.ensures.time
          (λ d left. one_log c.args.file _ _ _ c.cut.ensures.crash d (c.in_err-sync.ensures.broken d left));
    }

pub returns-clause-others : goal.returns-clause-others
returns-clause-others g c =
    let laws = g.met.D.Disk g.world.𝓛 g.world.𝓜 g.world.𝓡 ((λ s x. x), (λ x. x), (λ x. x), λ x. x) in
    let first = throughout_first _ _ _ _ _ _ (OneLog c.args.file (g.D.Disk.may_leave c.args.disk.now))
    (laws.only_now c.args.disk.now) c.cut.ensures.time
    (one_log_same c.args.file _) (one_log c.args.file _ _ _ c.cut.ensures.crash) in
    record {
      reads = rw c.sync.ensures.seen (becomes_any c.args.file (Cuts c.args.len) _ _ c.in_ok-cut.ensures.cut);
      images = throughout_more _ _ _ _ _ _ _ _ first c.sync.ensures.time
          (one_log_more c.args.file _ _ _ c.cut.ensures.crash _ c.in_ok-sync.ensures.others);
    }

pub returns-in_err-cut-clause-cut : goal.returns-in_err-cut-clause-cut
returns-in_err-cut-clause-cut g c told =
    let laws = g.met.D.Disk g.world.𝓛 g.world.𝓜 g.world.𝓡 ((λ s x. x), (λ x. x), (λ x. x), λ x. x) in
    throughout_first _ _ _ _ _ _ (Changed (g.D.Disk.may_leave c.args.disk.now) c.args.file (MayCut c.args.len))
    (laws.only_now c.args.disk.now) c.cut.ensures.time
    (λ d was. (d, was, cut_same c.args.len (d c.args.file))) (one_change c.args.file _ _ _ c.cut.ensures.crash)

pub returns-in_err-sync-clause-cut : goal.returns-in_err-sync-clause-cut
returns-in_err-sync-clause-cut g c told =
    let laws = g.met.D.Disk g.world.𝓛 g.world.𝓜 g.world.𝓡 ((λ s x. x), (λ x. x), (λ x. x), λ x. x) in
    let first = throughout_first _ _ _ _ _ _ (Changed (g.D.Disk.may_leave c.args.disk.now) c.args.file
    (MayCut c.args.len))
    (laws.only_now c.args.disk.now) c.cut.ensures.time
    (λ d was. (d, was, cut_same c.args.len (d c.args.file))) (one_change c.args.file _ _ _ c.cut.ensures.crash) in
    throughout_more _ _ _ _ _ _ _ _ first c.sync.ensures.time
    (λ d left. one_change c.args.file _ _ _ c.cut.ensures.crash d (c.in_err-sync.ensures.broken d left))

pub returns-clause-cut : goal.returns-clause-cut
returns-clause-cut g c told =
    let laws = g.met.D.Disk g.world.𝓛 g.world.𝓜 g.world.𝓡 ((λ s x. x), (λ x. x), (λ x. x), λ x. x) in
    let first = throughout_first _ _ _ _ _ _ (Changed (g.D.Disk.may_leave c.args.disk.now) c.args.file
    (MayCut c.args.len))
    (laws.only_now c.args.disk.now) c.cut.ensures.time
    (λ d was. (d, was, cut_same c.args.len (d c.args.file))) (one_change c.args.file _ _ _ c.cut.ensures.crash) in
    throughout_more _ _ _ _ _ _ _ _ first c.sync.ensures.time
    (settled_change c.args.file (Cuts c.args.len) _ _ _ _ _ told (laws.reads_now c.args.disk.now)
    c.in_ok-cut.ensures.cut (rw c.sync.ensures.seen at c.in_ok-sync.ensures.settled) (cut_done c.args.len))

cut_length : (len : ℕ) (a b : List ℕ) → Cuts len a b → len ≤ length a → length b ≡ len
cut_length len a b is long = rw is (omega (arith, long, length-take len a))

pub returns-clause-trimmed : goal.returns-clause-trimmed
returns-clause-trimmed g c =
    let long : IfSome (g.D.Disk.seen c.sync.new.self) (λ image. length (image c.args.file) ≡ c.args.len) =
    rw c.sync.ensures.seen (becomes_so c.args.file (Cuts c.args.len) (λ a. c.args.len ≤ length a)
    (λ b. length b ≡ c.args.len) _ _ (cut_length c.args.len) c.in_ok-cut.ensures.cut c.requires.len) in
    if_some_both (g.D.Disk.seen c.sync.new.self) long c.in_ok-sync.ensures.settled
    (λ image is sure d left. ap length (sure d left) ∙ is)

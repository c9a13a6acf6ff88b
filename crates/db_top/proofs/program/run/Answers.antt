use Rattle.std.proofs.Common.{[], ◌≢◌, ◌∙◌, ℕ, List, inl, inr, refl, subst, arith}
use Rattle.command_words.specs.Asked.{asked_settings}
use Rattle.db_top.proofs.Asking.{short_names}
use Rattle.db_top.proofs.Used.{checks_in_used, makes_in_used, poor_used, reports_used, serves_in_used}
use Rattle.doc_meaning.specs.History.{settings_of}
use Rattle.db_top.specs.Runs as runs
use Rattle.db_top.specs.Runs.{Reports}
use Rattle.db_top.specs.Statuses.{text_of}
use Rattle.db_top.specs.declared.status.Status.TheVariants as status
use Rattle.db_top.proofs.program.run.Goals as goal

pub make_asked-status-requires-clause-names : goal.make_asked-status-requires-clause-names
make_asked-status-requires-clause-names g c lives outlived =
    let asks = rw c.in-Some-Init.field-0-is at c.in-Some-Init.ensures in
    short_names (asked_settings c.in-Some-Init.init).indexes asks.settle.names

pub returns-in-Some-Init-clause-run : goal.returns-in-Some-Init-clause-run
returns-in-Some-Init-clause-run g c =
    let init = c.in-Some-Init.init in
    let asks = rw c.in-Some-Init.field-0-is at c.in-Some-Init.ensures in
    let m = c.make_asked-status in
    elim m.ensures.makes [
      | inl made ↦ record {
        middle = m.new.world;
        earlier = m.result;
        done = _;
        does = runs.init init.directory.now (asked_settings init) asks made refl;
        unprinted = m.ensures.printed;
        reports = c.report.ensures.reports;
        still = c.report.ensures.still;
        clients = c.report.ensures.clients;
        later = (m.ensures.later, c.report.ensures.later);
      }
      | inr poor ↦ record {
        middle = m.new.world;
        earlier = m.result;
        done = _;
        does = runs.poor init.directory.now (asked_settings init) asks poor.0 poor.1;
        unprinted = m.ensures.printed;
        reports = c.report.ensures.reports;
        still = c.report.ensures.still;
        clients = c.report.ensures.clients;
        later = (m.ensures.later, c.report.ensures.later);
      }
    ]

pub returns-in-Some-Init-clause-usage : goal.returns-in-Some-Init-clause-usage
returns-in-Some-Init-clause-usage g c =
    let init = c.in-Some-Init.init in
    let asks = rw c.in-Some-Init.field-0-is at c.in-Some-Init.ensures in
    let m = c.make_asked-status in
    let used : m.result ≢ status.Usage = elim m.ensures.makes [
      | inl made ↦ makes_in_used g.W.Disk.Disk g.W.Yard.Yard g.W.Source.Source g.W.Sink.Sink g.W.World
          (settings_of (asked_settings init)) init.directory.now c.args.world.now m.new.world m.result made
      | inr poor ↦ poor_used m.result poor.1
    ] in (
      λ is. absurd (reports_used _ _ _ _ _ m.result c.report.result c.report.ensures.reports used is),
      λ unfit. absurd (unfit.init init.directory.now (asked_settings init) asks),
    )

pub returns-in-Some-Check-clause-run : goal.returns-in-Some-Check-clause-run
returns-in-Some-Check-clause-run g c =
    let asks = rw c.in-Some-Check.field-0-is at c.in-Some-Check.ensures in
    let k = c.check_directory-line in
    let r = c.report-in-Some-Check in
    record {
      middle = k.new.world;
      earlier = k.result.1;
      done = k.result.0.bytes;
      does = runs.check c.in-Some-Check.directory.now asks k.ensures.checks;
      unprinted = k.ensures.printed;
      reports = subst (λ (t : List ℕ). Reports (g.W.World.faults k.new.world) (g.W.World.faults r.new.world)
          (g.W.World.printed k.new.world) (g.W.World.printed r.new.world) (text_of t k.result.1) k.result.1 r.result)
          (c.as_bytes.ensures.value ∙ c.as_str.ensures.value) r.ensures.reports;
      still = c.report-in-Some-Check.ensures.still;
      clients = c.report-in-Some-Check.ensures.clients;
      later = (k.ensures.later, c.report-in-Some-Check.ensures.later);
    }

pub returns-in-Some-Check-clause-usage : goal.returns-in-Some-Check-clause-usage
returns-in-Some-Check-clause-usage g c =
    let asks = rw c.in-Some-Check.field-0-is at c.in-Some-Check.ensures in
    let k = c.check_directory-line in
    let r = c.report-in-Some-Check in (
      λ is. absurd (reports_used _ _ _ _ _ k.result.1 r.result r.ensures.reports
          (checks_in_used g.W.Disk.Disk g.W.Yard.Yard g.W.Source.Source g.W.Sink.Sink g.W.World
          k.result.0.bytes c.in-Some-Check.directory.now c.args.world.now k.new.world k.result.1 k.ensures.checks)
          is),
      λ unfit. absurd (unfit.check c.in-Some-Check.directory.now asks),
    )

pub returns-in-Some-Run-clause-run : goal.returns-in-Some-Run-clause-run
returns-in-Some-Run-clause-run g c =
    let asks = rw c.in-Some-Run.field-0-is at c.in-Some-Run.ensures in
    let s = c.serve_directory-status in
    record {
      middle = s.new.world;
      earlier = s.result;
      done = _;
      does = runs.run c.in-Some-Run.directory.now asks s.ensures.serves refl;
      unprinted = s.ensures.printed;
      reports = c.report-in-Some-Run.ensures.reports;
      still = c.report-in-Some-Run.ensures.still;
      clients = c.report-in-Some-Run.ensures.clients;
      later = (s.ensures.later, c.report-in-Some-Run.ensures.later);
    }

pub returns-in-Some-Run-clause-usage : goal.returns-in-Some-Run-clause-usage
returns-in-Some-Run-clause-usage g c =
    let asks = rw c.in-Some-Run.field-0-is at c.in-Some-Run.ensures in
    let s = c.serve_directory-status in
    let r = c.report-in-Some-Run in (
      λ is. absurd (reports_used _ _ _ _ _ s.result r.result r.ensures.reports
          (serves_in_used g.W.Disk.Disk g.W.Yard.Yard g.W.Source.Source g.W.Sink.Sink g.W.World
          c.in-Some-Run.directory.now c.args.world.now s.new.world s.result s.ensures.serves) is),
      λ unfit. absurd (unfit.run c.in-Some-Run.directory.now asks),
    )

pub returns-in-None-clause-run : goal.returns-in-None-clause-run
returns-in-None-clause-run g c =
    let r = c.report-in-None.ensures in
    record {
      middle = c.args.world.now;
      earlier = status.Usage;
      done = [];
      does = runs.usage c.in-None.ensures refl refl refl;
      unprinted = refl;
      reports = r.reports;
      still = r.still;
      clients = r.clients;
      later = (omega arith, r.later);
    }

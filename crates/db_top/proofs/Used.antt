-- Words that fit don't end in `usage`.
use Rattle.std.proofs.Common.{ℕ, ◌≡◌, ◌≢◌, inl, inr, List, Option, sym, ◌∙◌}
use Rattle.disk_model.specs.Worlds.{Handed}
use Rattle.disk_model.specs.declared.disk.Disk
use Rattle.disk_model.specs.declared.streams.Sink
use Rattle.disk_model.specs.declared.streams.Source
use Rattle.disk_model.specs.declared.world.Client.{Client}
use Rattle.disk_model.specs.declared.world.Store.{Store}
use Rattle.disk_model.specs.declared.world.World
use Rattle.disk_model.specs.declared.yard.Yard
use Rattle.db_top.specs.Lending.{Lends, IsInDirectory}
use Rattle.db_top.specs.Checking.{Checks}
use Rattle.db_top.specs.Making.{Makes}
use Rattle.db_top.specs.Runs.{ChecksIn, MakesIn, Reports, ServesClient, ServesIn}
use Rattle.doc_meaning.specs.History.{BaseSettings}
use Rattle.db_top.specs.Serving.{ServesStore}
use Rattle.db_top.specs.Statuses.{lost_to, refused_as, status_of}
use Rattle.db_top.specs.declared.status.Status.{Status}
use Rattle.db_top.specs.declared.status.Status.TheVariants as status
use Rattle.doc_engine.specs.declared.refusal.OpenWhy.{OpenWhy}
use Rattle.doc_engine.specs.declared.refusal.OpenWhy.TheVariants as why
use Rattle.transcript.specs.declared.session_end.SessionEnd.{SessionEnd}
use Rattle.transcript.specs.declared.session_end.SessionEnd.TheVariants as end

refused_used : (reason : OpenWhy) → refused_as reason ≢ status.Usage
refused_used why.AlreadyThere is = absurd (cc)
refused_used why.NotThere is = absurd (cc)
refused_used (why.Damaged file place) is = absurd (cc)
refused_used why.Fault is = absurd (cc)
refused_used why.Memory is = absurd (cc)

ended_used : (how : SessionEnd) → status_of how ≢ status.Usage
ended_used end.Quit is = absurd (cc)
ended_used end.End is = absurd (cc)
ended_used end.Long is = absurd (cc)
ended_used end.ReadFault is = absurd (cc)
ended_used end.WriteFault is = absurd (cc)
ended_used end.Memory is = absurd (cc)

lost_used : (s : Status) → s ≢ status.Usage → lost_to s ≢ status.Usage
lost_used status.Done used is = absurd (cc)
lost_used status.Usage used is = used is
lost_used status.NotThere used is = absurd (cc)
lost_used status.AlreadyThere used is = absurd (cc)
lost_used status.Fault used is = absurd (cc)
lost_used status.Memory used is = absurd (cc)
lost_used (status.Damaged file place) used is = absurd (cc)

pub poor_used : (s : Status) → s ≡ status.Memory → s ≢ status.Usage
poor_used s is used = absurd (cc)

-- what lending ends in isn't `usage`, where what was done meanwhile doesn't
lends_used : {A : Type 0} (Does : A → A → Status → Type 0) (Represents : A → Type 0) (before now : ℕ)
    (old new : Handed A) (given : A) (told : Option A) (result : Status)
    → ((after : A) (s : Status) → Does given after s → s ≢ status.Usage)
    → Lends Does Represents before now old new given told result → result ≢ status.Usage
lends_used Does Represents before now old new given told result used lends is =
    let earlier : lends.earlier ≢ status.Usage = used lends.returned lends.earlier lends.does in
    elim lends.ends [
      | inl kept ↦ earlier (sym kept.2 ∙ is)
      | inr lost ↦ lost_used lends.earlier earlier (sym lost.2 ∙ is)
    ]

-- nor what is reported
pub reports_used : (before now : ℕ) (printed printed' : Option (List ℕ)) (text : List ℕ) (earlier result : Status)
    → Reports before now printed printed' text earlier result → earlier ≢ status.Usage → result ≢ status.Usage
reports_used before now printed printed' text earlier result (inl done) used is = used (sym done.1 ∙ is)
reports_used before now printed printed' text earlier result (inr failed) used is =
    lost_used earlier used (sym failed.2 ∙ is)

module _ {W D Y P I O F B : Type 0} (disk : Disk.Ghosts D) (yard : Yard.Ghosts Y F B) (source : Source.Ghosts I)
    (sink : Sink.Ghosts O) (world : World.Ghosts W D Y P I O F B) where
  makes_used : (settings : BaseSettings) (before after : Store D Y) (result : Status)
      → Makes disk settings before after result → result ≢ status.Usage
  makes_used settings before after result makes is =
      elim makes.makes [ inl made ↦ absurd (cc) | inr refuses ↦ refused_used refuses.why (sym refuses.ends ∙ is) ]

  serves_used : (before after : Store D Y) (given back : Client I O P) (result : Status)
      → ServesStore disk yard source sink before after given back result → result ≢ status.Usage
  serves_used before after given back result serves is =
      elim serves.serves [
        | inl attends ↦ ended_used attends.session.how (sym attends.ends ∙ is)
        | inr refuses ↦ refused_used refuses.why (sym refuses.ends ∙ is)
      ]

  client_used : (old new : W) (before after : Store D Y) (result : Status)
      → ServesClient disk yard source sink world old new before after result → result ≢ status.Usage
  client_used old new before after result (inl served) is =
      lends_used (ServesStore disk yard source sink before after) (λ _. Unit {0}) (world.faults old) (world.faults new)
      (world.clients old) (world.clients new) served.given served.told result
      (λ back s. serves_used before after served.given back s) served.lends is
  client_used old new before after result (inr none) is = absurd (cc)

  pub makes_in_used : (settings : BaseSettings) (directory : List ℕ) (old new : W) (result : Status)
      → MakesIn disk yard source sink world settings directory old new result → result ≢ status.Usage
  makes_in_used settings directory old new result makes is =
      elim makes.makes [
        | inl stored ↦ lends_used (Makes disk settings) (IsInDirectory disk yard world directory new) (world.faults old)
            (world.faults new) (world.stores old) (world.stores new) stored.given stored.told result
            (λ after s. makes_used settings stored.given after s) stored.lends is
        | inr none ↦ absurd (cc none.ends)
      ]

  checks_used : (done : List ℕ) (before after : Store D Y) (result : Status) → Checks disk yard done before after result
      → result ≢ status.Usage
  checks_used done before after result checks is =
      elim checks.checks [
        | inl tells ↦ absurd (cc tells.ends)
        | inr refuses ↦ refused_used refuses.why (sym refuses.ends ∙ is)
      ]

  pub checks_in_used : (done directory : List ℕ) (old new : W) (result : Status)
      → ChecksIn disk yard source sink world done directory old new result → result ≢ status.Usage
  checks_in_used done directory old new result checks is =
      elim checks.checks [
        | inl stored ↦ lends_used (Checks disk yard done) (IsInDirectory disk yard world directory new)
            (world.faults old) (world.faults new) (world.stores old) (world.stores new) stored.given stored.told result
            (λ after s. checks_used done stored.given after s) stored.lends is
        | inr none ↦ absurd (cc none.ends)
      ]

  pub serves_in_used : (directory : List ℕ) (old new : W) (result : Status)
      → ServesIn disk yard source sink world directory old new result → result ≢ status.Usage
  serves_in_used directory old new result (inl stored) is =
      lends_used (ServesClient disk yard source sink world old new) (IsInDirectory disk yard world directory new)
      (world.faults old) (world.faults new) (world.stores old) (world.stores new) stored.given stored.told result
      (λ after s. client_used old new stored.given after s) stored.lends is
  serves_in_used directory old new result (inr none) is = absurd (cc none.0.ends)

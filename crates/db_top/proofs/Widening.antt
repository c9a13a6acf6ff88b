-- What was done with a client while a store was out, told of the whole time.
use Rattle.std.proofs.Common.{◌≡◌, ◌≤◌, ◌⊎◌, ℕ, Option, Some, None, inl, inr, sym, ◌∙◌, subst₂, arith}
use Rattle.db_top.specs.Lending.{Lends}
use Rattle.db_top.specs.Runs.{ServesClient}
use Rattle.db_top.specs.Serving.{ServesStore}
use Rattle.db_top.specs.Statuses.{lost_to}
use Rattle.db_top.specs.declared.status.Status.{Status}
use Rattle.disk_model.specs.Causes.{Rose}
use Rattle.disk_model.specs.Worlds.{Handed}
use Rattle.disk_model.specs.declared.disk.Disk
use Rattle.disk_model.specs.declared.streams.Sink
use Rattle.disk_model.specs.declared.streams.Source
use Rattle.disk_model.specs.declared.world.Client.{Client}
use Rattle.disk_model.specs.declared.world.Store.{Store}
use Rattle.disk_model.specs.declared.world.World
use Rattle.disk_model.specs.declared.yard.Yard

rose_over : (before mid late now : ℕ) → before ≤ mid → late ≤ now → Rose mid late → Rose before now
rose_over before mid late now earlier later rose = omega arith

module _ {A : Type 0} (Does : A → A → Status → Type 0) (Represents : A → Type 0) (before mid late now : ℕ)
    (earlier : before ≤ mid) (later : late ≤ now) (old new : Handed A) where
  lends_over : (given : A) (told : Option A) (result : Status)
      → Lends Does Represents mid late old new given told result
      → Lends Does Represents before now old new given told result
  lends_over given told result is = record {
    returned = is.returned;
    earlier = is.earlier;
    out = is.out;
    back = is.back;
    does = is.does;
    ends = over is.ends;
  }
    where
      over : ((told ≡ Some is.returned) × Represents is.returned × (result ≡ is.earlier))
          ⊎ (((told ≡ None) ⊎ (told ≡ Some is.returned)) × Rose mid late × (result ≡ lost_to is.earlier))
          → ((told ≡ Some is.returned) × Represents is.returned × (result ≡ is.earlier))
          ⊎ (((told ≡ None) ⊎ (told ≡ Some is.returned)) × Rose before now × (result ≡ lost_to is.earlier))
      over (inl put) = inl put
      over (inr (kind, rose, ends)) = inr (kind, rose_over before mid late now earlier later rose, ends)

module _ {W D Y P I O F B : Type 0} (disk : Disk.Ghosts D) (yard : Yard.Ghosts Y F B) (source : Source.Ghosts I)
    (sink : Sink.Ghosts O) (world : World.Ghosts W D Y P I O F B) (old mid late new : W) (store back : Store D Y)
    (result : Status) where
  -- no client was handed out or put back before and after
  pub serves_client_over : world.faults old ≤ world.faults mid → world.faults late ≤ world.faults new
      → world.clients mid ≡ world.clients old → world.clients new ≡ world.clients late
      → ServesClient disk yard source sink world mid late store back result
      → ServesClient disk yard source sink world old new store back result
  serves_client_over earlier later before behind (inl is) = inl (record {
    given = is.given;
    told = is.told;
    lends = subst₂ (λ (o n : Handed (Client I O P)). Lends (ServesStore disk yard source sink store back)
        (λ _. Unit {0}) (world.faults old) (world.faults new) o n is.given is.told result) before (sym behind)
        (lends_over (ServesStore disk yard source sink store back) (λ _. Unit {0}) (world.faults old) (world.faults mid)
        (world.faults late) (world.faults new) earlier later (world.clients mid) (world.clients late) is.given is.told
        result is.lends);
  })
  serves_client_over earlier later before behind (inr (same, nothing)) = inr (
    same,
    (
      behind ∙ nothing.0 ∙ before,
      rose_over (world.faults old) (world.faults mid) (world.faults late) (world.faults new) earlier later nothing.1,
      nothing.2,
    ),
  )

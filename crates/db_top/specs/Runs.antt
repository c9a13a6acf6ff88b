-- What a run does with the world.
use Rattle.std.specs.Prelude.{ℕ, ◌≡◌, ◌⊎◌, ◌≤◌, List, [], Option, codes, take}
use Rattle.std.specs.Io.KnownBytes.{Appends}
use Rattle.disk_model.specs.Causes.{Rose}
use Rattle.disk_model.specs.declared.disk.Disk
use Rattle.disk_model.specs.declared.streams.Sink
use Rattle.disk_model.specs.declared.streams.Source
use Rattle.disk_model.specs.declared.world.Client.{Client}
use Rattle.disk_model.specs.declared.world.Store.{Store}
use Rattle.disk_model.specs.declared.world.World
use Rattle.disk_model.specs.declared.yard.Yard
use Rattle.doc_meaning.specs.History.{BaseSettings, settings_of}
use Rattle.doc_model.specs.declared.settings.Settings.{Settings}
use Rattle.command_words.specs.Asked.{AsksCheck, AsksInit, AsksRun, DoNotFit}
use Rattle.db_top.specs.Checking.{Checks}
use Rattle.db_top.specs.Lending.{HandsNothing, Lends, IsInDirectory, KeepsStores, WasInDirectory}
use Rattle.db_top.specs.Making.{Makes}
use Rattle.db_top.specs.Serving.{ServesStore}
use Rattle.db_top.specs.Statuses.{lost_to, text_of}
use Rattle.db_top.specs.declared.status.Status.{Status}
use Rattle.db_top.specs.declared.status.Status.TheVariants as status
use Rattle.transcript.specs.Texts.{ended}

-- a text was printed, and the status stays; or the world failed when a beginning of it was printed, and what was done
-- ends in a fault
abbrev pub Reports : ℕ → ℕ → Option (List ℕ) → Option (List ℕ) → List ℕ → Status → Status → Type 0
Reports before now printed printed' text earlier result =
    (Appends printed printed' text × (result ≡ earlier))
    ⊎ (Rose before now × ((n : ℕ) × Appends printed printed' (take n text)) × (result ≡ lost_to earlier))

module _ {W D Y P I O F B : Type 0} (disk : Disk.Ghosts D) (yard : Yard.Ghosts Y F B) (source : Source.Ghosts I)
    (sink : Sink.Ghosts O) (world : World.Ghosts W D Y P I O F B) where
  -- the store of a directory was handed out, and this was done with it while it was out
  pub record LendsStore (Does : Store D Y → Store D Y → Status → Type 0) (directory : List ℕ) (old new : W)
      (result : Status) : Type 0 where
    pub given : Store D Y
    pub told : Option (Store D Y)
    pub was_stored : WasInDirectory disk yard world directory old new given
    pub lends : Lends Does (IsInDirectory disk yard world directory new) (world.faults old) (world.faults new)
        (world.stores old) (world.stores new) given told result

  -- a client was handed out, and this was done with it while it was out
  pub record LendsClient (Does : Client I O P → Client I O P → Status → Type 0) (old new : W) (result : Status)
      : Type 0 where
    pub given : Client I O P
    pub told : Option (Client I O P)
    pub lends : Lends Does (λ _. Unit {0}) (world.faults old) (world.faults new) (world.clients old) (world.clients new)
        given told result

  -- the world failed to hand out a store
  pub record LendsNoStore (old new : W) (result : Status) : Type 0 where
    pub still : KeepsStores disk yard world old new
    pub rose : Rose (world.faults old) (world.faults new)
    pub ends : result ≡ status.Fault

  -- the store of a directory was handed out, a database of these settings made there or refused, and it was put back;
  -- or the world failed. No client was handed out
  pub record MakesIn (settings : BaseSettings) (directory : List ℕ) (old new : W) (result : Status) : Type 0 where
    pub makes : LendsStore (Makes disk settings) directory old new result ⊎ LendsNoStore old new result
    pub clients : world.clients new ≡ world.clients old

  -- the store of a directory was handed out and opened or not, and it was put back; `done` is the text of what it
  -- holds. Or the world failed. No client was handed out
  pub record ChecksIn (done : List ℕ) (directory : List ℕ) (old new : W) (result : Status) : Type 0 where
    pub checks : LendsStore (Checks disk yard done) directory old new result ⊎ LendsNoStore old new result
    pub clients : world.clients new ≡ world.clients old

  -- a client was handed out, served with a store or not, and put back; or the world failed, and the store is as it was
  abbrev pub ServesClient : W → W → Store D Y → Store D Y → Status → Type 0
  ServesClient old new store store' result =
      LendsClient (ServesStore disk yard source sink store store') old new result
      ⊎ ((store' ≡ store)
      × HandsNothing (world.faults old) (world.faults new) (world.clients old) (world.clients new) result)

  -- the store of a directory was handed out, a client with it, and both were put back; or the world failed
  abbrev pub ServesIn : List ℕ → W → W → Status → Type 0
  ServesIn directory old new result =
      LendsStore (ServesClient old new) directory old new result
      ⊎ (LendsNoStore old new result × (world.clients new ≡ world.clients old))

  -- what was asked was done with the world; `done` is the text of it
  pub data HasDone (words : List (List ℕ)) (old new : W) (result : Status) (done : List ℕ) : Type 0 where
    init : (directory : List ℕ) (settings : Settings) → AsksInit words directory settings
        → MakesIn (settings_of settings) directory old new result → done ≡ ended (codes "made")
        → HasDone words old new result done
    -- there was no memory for the settings, and no store was asked for
    poor : (directory : List ℕ) (settings : Settings) → AsksInit words directory settings → new ≡ old
        → result ≡ status.Memory → HasDone words old new result done
    check : (directory : List ℕ) → AsksCheck words directory → ChecksIn done directory old new result
        → HasDone words old new result done
    run : (directory : List ℕ) → AsksRun words directory → ServesIn directory old new result
        → done ≡ [] → HasDone words old new result done
    usage : DoNotFit words → new ≡ old → result ≡ status.Usage → done ≡ [] → HasDone words old new result done

  -- what was asked was done, and all that was handed out was put back; nothing was printed until then, and then the end
  -- was reported
  pub record IsRun (words : List (List ℕ)) (old new : W) (result : Status) : Type 0 where
    pub middle : W
    pub earlier : Status
    pub done : List ℕ
    pub does : HasDone words old middle earlier done
    pub unprinted : world.printed middle ≡ world.printed old
    pub reports : Reports (world.faults middle) (world.faults new) (world.printed middle) (world.printed new)
        (text_of done earlier) earlier result
    pub still : KeepsStores disk yard world middle new
    pub clients : world.clients new ≡ world.clients middle
    pub later : (world.faults old ≤ world.faults middle) × (world.faults middle ≤ world.faults new)

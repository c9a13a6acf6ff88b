-- What a world hands out for a run, and how it comes back.
use Rattle.std.specs.Prelude.{ℕ, ◌≡◌, ◌≢◌, ◌⊎◌, List, [], ◌∷◌, ◌++◌, Option, Some, None, IfSome, length}
use Rattle.disk_model.specs.Causes.{Rose}
use Rattle.disk_model.specs.Worlds.{Handed, IsBlank}
use Rattle.disk_model.specs.declared.disk.Disk
use Rattle.disk_model.specs.declared.world.Store.{Store}
use Rattle.disk_model.specs.declared.world.World
use Rattle.disk_model.specs.declared.yard.Yard
use Rattle.db_top.specs.Statuses.{lost_to}
use Rattle.db_top.specs.declared.status.Status.{Status}
use Rattle.db_top.specs.declared.status.Status.TheVariants as status

-- this was handed out, this was done with it, and it was put back, and the status stays; or the world failed to take
-- it, need not tell how it came back, and what was done ends in a fault
pub record Lends {A : Type 0} (Does : A → A → Status → Type 0) (IsBack : A → Type 0) (before now : ℕ)
    (old new : Handed A) (given : A) (told : Option A) (result : Status) : Type 0 where
  pub returned : A
  pub earlier : Status
  pub out : new.out ≡ old.out ++ given ∷ []
  pub back : new.back ≡ old.back ++ told ∷ []
  pub does : Does given returned earlier
  pub ends : ((told ≡ Some returned) × IsBack returned × (result ≡ earlier))
      ⊎ (((told ≡ None) ⊎ (told ≡ Some returned)) × Rose before now × (result ≡ lost_to earlier))

-- the world failed, and nothing was handed out
abbrev pub HandsNothing : {A : Type 0} → ℕ → ℕ → Handed A → Handed A → Status → Type 0
HandsNothing before now old new result = (new ≡ old) × Rose before now × (result ≡ status.Fault)

module _ {W D Y P I O F B : Type 0} (disk : Disk.Ghosts D) (yard : Yard.Ghosts Y F B)
    (world : World.Ghosts W D Y P I O F B) where
  -- the store that was handed out is the one that was in this directory, where that is told; other directories are as
  -- before
  pub record WasInDirectory (directory : List ℕ) (old new : W) (given : Store D Y) : Type 0 where
    pub named : world.directories new ≡ world.directories old ++ directory ∷ []
    pub was_stored : IfSome (world.stored old directory) (λ found. IfSome found (λ store. given ≡ store))
    pub blank : world.stored old directory ≡ Some None
        → IsBlank (disk.seen given.disk) (disk.may_leave given.disk) (yard.holds given.yard)
    pub others : (other : List ℕ) → other ≢ directory → world.stored new other ≡ world.stored old other

  -- this store is in the directory, where that is told
  abbrev pub IsInDirectory : List ℕ → W → Store D Y → Type 0
  IsInDirectory directory w store = IfSome (world.stored w directory) (λ found. found ≡ Some store)

  -- no store was handed out, and each directory is as before
  pub record KeepsStores (old new : W) : Type 0 where
    pub stores : world.stores new ≡ world.stores old
    pub directories : world.directories new ≡ world.directories old
    pub stored : world.stored new ≡ world.stored old

  -- as many were put back as were handed out, and each store has its directory
  pub record IsIdle (w : W) : Type 0 where
    pub stores : length (world.stores w).back ≡ length (world.stores w).out
    pub directories : length (world.directories w) ≡ length (world.stores w).out
    pub clients : length (world.clients w).back ≡ length (world.clients w).out

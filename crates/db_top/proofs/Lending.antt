-- What is handed out and put back, from what the world's calls say.
use Rattle.std.proofs.Common.{ℕ, zero, suc, ◌≡◌, ◌≢◌, ◌≤◌, ◌⊎◌, inl, inr, List, [], ◌∷◌, ◌++◌}
use Rattle.std.proofs.Common.{Option, Some, None, length, refl, sym, ◌∙◌, ap, subst, arith}
use Rattle.std.specs.Prelude.{IfSome, slice_get}
use Rattle.disk_model.specs.Causes.{Rose}
use Rattle.disk_model.specs.Worlds.{Handed, HandsOut, IsBlank, PutsBack, directory_due}
use Rattle.disk_model.specs.declared.disk.Disk
use Rattle.disk_model.specs.declared.world.Client.{Client}
use Rattle.disk_model.specs.declared.world.Store.{Store}
use Rattle.disk_model.specs.declared.world.World
use Rattle.disk_model.specs.declared.yard.Yard
use Rattle.disk_model.specs.declared.streams.Sink
use Rattle.disk_model.specs.declared.streams.Source
use Rattle.db_top.specs.Lending.{IsIdle, Lends, IsInDirectory, KeepsStores, WasInDirectory}
use Rattle.db_top.specs.Runs.{LendsClient, LendsStore}
use Rattle.db_top.specs.Statuses.{lost_to}
use Rattle.db_top.specs.declared.status.Status.{Status}

-- a count that rose later rose since earlier
pub rose_since : (before middle now : ℕ) → before ≤ middle → Rose middle now → Rose before now
rose_since before middle now later rose = omega arith

-- the last of a list is at the length of those before
pub last_is : {A : Type 0} (xs : List A) (x : A) (n : ℕ) → n ≡ length xs → slice_get (xs ++ x ∷ []) n ≡ Some x
last_is [] x zero is = refl
last_is [] x (suc n) is = absurd (cc)
last_is (y ∷ ys) x zero is = absurd (cc)
last_is (y ∷ ys) x (suc n) is = last_is ys x n (omega (arith, is))

module _ {A : Type 0} (Does : A → A → Status → Type 0) (IsBack : A → Type 0) (before now : ℕ)
    (old mid new : Handed A) (given returned : A) (earlier : Status) where
  -- what was handed out was put back
  pub lends : HandsOut given old mid → PutsBack (Some returned) mid new → Does given returned earlier → IsBack returned
      → Lends Does IsBack before now old new given (Some returned) earlier
  lends out back does stored = record {
    returned = returned;
    earlier = earlier;
    out = back.out ∙ out.out;
    back = back.back ∙ ap (λ (b : List (Option A)). b ++ Some returned ∷ []) out.back;
    does = does;
    ends = inl (refl, stored, refl);
  }

  -- the world failed to take it back
  pub loses : (told : Option A) → HandsOut given old mid → PutsBack told mid new
      → (told ≡ None) ⊎ (told ≡ Some returned)
      → Does given returned earlier → Rose before now
      → Lends Does IsBack before now old new given told (lost_to earlier)
  loses told out back kind does rose = record {
    returned = returned;
    earlier = earlier;
    out = back.out ∙ out.out;
    back = back.back ∙ ap (λ (b : List (Option A)). b ++ told ∷ []) out.back;
    does = does;
    ends = inr (kind, rose, refl);
  }

module _ {W D Y P I O F B : Type 0} (disk : Disk.Ghosts D) (yard : Yard.Ghosts Y F B)
    (world : World.Ghosts W D Y P I O F B) where
  -- what the world says of a store that it hands out
  pub record TakesStore (directory : List ℕ) (old mid : W) (given : Store D Y) : Type 0 where
    pub out : HandsOut given (world.stores old) (world.stores mid)
    pub named : world.directories mid ≡ world.directories old ++ directory ∷ []
    pub was_stored : IfSome (world.stored old directory) (λ found. IfSome found (λ store. given ≡ store))
    pub blank : world.stored old directory ≡ Some None
        → IsBlank (disk.seen given.disk) (disk.may_leave given.disk) (yard.holds given.yard)
    pub others : (other : List ℕ) → other ≢ directory → world.stored mid other ≡ world.stored old other

  -- what it says of one that it takes back
  pub record PutsStore (told : Option (Store D Y)) (mid new : W) : Type 0 where
    pub back : PutsBack told (world.stores mid) (world.stores new)
    pub directories : world.directories new ≡ world.directories mid
    pub others : (other : List ℕ) → directory_due (world.stores mid) (world.directories mid) ≢ Some other
        → world.stored new other ≡ world.stored mid other

  module _ (directory : List ℕ) (old mid late new : W) (given : Store D Y)
      (idle : IsIdle disk yard world old) (takes : TakesStore directory old mid given)
      (still : KeepsStores disk yard world mid late) where
    -- the directory due is the one of the store that was handed out
    pub due : directory_due (world.stores late) (world.directories late) ≡ Some directory
    due =
        let counted : length (world.stores late).back ≡ length (world.directories old) =
        ap (λ (h : Handed (Store D Y)). length h.back) still.stores
        ∙ (ap (λ (b : List (Option (Store D Y))). length b) takes.out.back ∙ (idle.stores ∙ sym idle.directories)) in
        ap (λ (ds : List (List ℕ)). slice_get ds (length (world.stores late).back)) (still.directories ∙ takes.named)
        ∙ last_is (world.directories old) directory (length (world.stores late).back) counted

    pub was_stored_in : (told : Option (Store D Y)) → PutsStore told late new
        → WasInDirectory disk yard world directory old new given
    was_stored_in told puts = record {
      named = puts.directories ∙ (still.directories ∙ takes.named);
      was_stored = takes.was_stored;
      blank = takes.blank;
      others = λ other ne.
          puts.others other (λ is. ne (cc (is, due)))
          ∙ (ap (λ (s : List ℕ → Option (Option (Store D Y))). s other) still.stored ∙ takes.others other ne);
    }

module _ {W D Y P I O F B : Type 0} (disk : Disk.Ghosts D) (yard : Yard.Ghosts Y F B) (source : Source.Ghosts I)
    (sink : Sink.Ghosts O) (world : World.Ghosts W D Y P I O F B) (directory : List ℕ) (old mid late new : W)
    (given : Store D Y) (idle : IsIdle disk yard world old) (takes : TakesStore disk yard world directory old mid given)
    (still : KeepsStores disk yard world mid late) (Does : Store D Y → Store D Y → Status → Type 0)
    (returned : Store D Y) (earlier : Status) (does : Does given returned earlier) where
  moved : HandsOut given (world.stores old) (world.stores late)
  moved = record { out = ap out still.stores ∙ takes.out.out; back = ap back still.stores ∙ takes.out.back }
    where
      out : Handed (Store D Y) → List (Store D Y)
      out h = h.out

      back : Handed (Store D Y) → List (Option (Store D Y))
      back h = h.back

  -- the store was put back
  pub lends_store : PutsStore disk yard world (Some returned) late new
      → IfSome (directory_due (world.stores late) (world.directories late))
      (λ dir. IfSome (world.stored new dir) (λ found. found ≡ Some returned))
      → LendsStore disk yard source sink world Does directory old new earlier
  lends_store puts stored = record {
    given = given;
    told = Some returned;
    was_stored = was_stored_in disk yard world directory old mid late new given idle takes still (Some returned) puts;
    lends = lends Does (IsInDirectory disk yard world directory new) (world.faults old) (world.faults new)
        (world.stores old) (world.stores late) (world.stores new) given returned earlier moved puts.back does
        (subst (λ (d : Option (List ℕ)). IfSome d (λ dir.
        IfSome (world.stored new dir) (λ found. found ≡ Some returned)))
        (due disk yard world directory old mid late new given idle takes still) stored);
  }

  lost_with : (told : Option (Store D Y)) → PutsStore disk yard world told late new
      → (told ≡ None) ⊎ (told ≡ Some returned) → Rose (world.faults old) (world.faults new)
      → LendsStore disk yard source sink world Does directory old new (lost_to earlier)
  lost_with told puts kind rose = record {
    given = given;
    told = told;
    was_stored = was_stored_in disk yard world directory old mid late new given idle takes still told puts;
    lends = loses Does (IsInDirectory disk yard world directory new) (world.faults old) (world.faults new)
        (world.stores old) (world.stores late) (world.stores new) given returned earlier told moved puts.back kind does
        rose;
  }

  -- the world failed to take it back
  pub loses_store : world.directories new ≡ world.directories late
      → ((other : List ℕ) → directory_due (world.stores late) (world.directories late) ≢ Some other
      → world.stored new other ≡ world.stored late other)
      → PutsBack None (world.stores late) (world.stores new)
      ⊎ PutsBack (Some returned) (world.stores late) (world.stores new)
      → Rose (world.faults old) (world.faults new)
      → LendsStore disk yard source sink world Does directory old new (lost_to earlier)
  loses_store directories others (inl back) rose =
      lost_with None (record { back = back; directories = directories; others = others }) (inl refl) rose
  loses_store directories others (inr back) rose =
      lost_with (Some returned) (record { back = back; directories = directories; others = others }) (inr refl) rose

-- the same for a client
module _ {W D Y P I O F B : Type 0} (disk : Disk.Ghosts D) (yard : Yard.Ghosts Y F B) (source : Source.Ghosts I)
    (sink : Sink.Ghosts O) (world : World.Ghosts W D Y P I O F B) (old mid new : W) (given returned : Client I O P)
    (out : HandsOut given (world.clients old) (world.clients mid))
    (Does : Client I O P → Client I O P → Status → Type 0) (earlier : Status) (does : Does given returned earlier) where
  pub lends_client : PutsBack (Some returned) (world.clients mid) (world.clients new)
      → LendsClient disk yard source sink world Does old new earlier
  lends_client back = record {
    given = given;
    told = Some returned;
    lends = lends Does (λ _. Unit {0}) (world.faults old) (world.faults new) (world.clients old) (world.clients mid)
        (world.clients new) given returned earlier out back does tt;
  }

  lost_client_with : (told : Option (Client I O P)) → PutsBack told (world.clients mid) (world.clients new)
      → (told ≡ None) ⊎ (told ≡ Some returned) → Rose (world.faults old) (world.faults new)
      → LendsClient disk yard source sink world Does old new (lost_to earlier)
  lost_client_with told back kind rose = record {
    given = given;
    told = told;
    lends = loses Does (λ _. Unit {0}) (world.faults old) (world.faults new) (world.clients old) (world.clients mid)
        (world.clients new) given returned earlier told out back kind does rose;
  }

  -- the world failed to take it back
  pub loses_client : PutsBack None (world.clients mid) (world.clients new)
      ⊎ PutsBack (Some returned) (world.clients mid) (world.clients new)
      → Rose (world.faults old) (world.faults new)
      → LendsClient disk yard source sink world Does old new (lost_to earlier)
  loses_client (inl back) rose = lost_client_with None back (inl refl) rose
  loses_client (inr back) rose = lost_client_with (Some returned) back (inr refl) rose

-- The entry that a broken append may have left after turns, and what a crash leaves since each of them.
use Rattle.std.specs.Prelude.{ℕ, ◌≡◌, ◌+◌, ◌≤◌, List, [], ◌∷◌, length, take, slice_get, Option, Some, None, IsSome}
use Rattle.disk_model.specs.Files.{Files}
use Rattle.disk_model.specs.Logs.{Image}
use Rattle.disk_model.specs.declared.disk.Disk
use Rattle.disk_model.specs.declared.world.Store.{Store}
use Rattle.disk_model.specs.declared.yard.Yard
use Rattle.doc_engine.specs.EngineState.{files_of}
use Rattle.doc_engine.specs.Representing.{ShowsWith}
use Rattle.doc_meaning.specs.History.{Base}
use Rattle.doc_model.specs.declared.entry.Entry.{Entry}
use Rattle.doc_model.specs.declared.entry.Entry.TheVariants as entry
use Rattle.transcript.specs.Turns.{Event, commit, forget, look, wish, start_save, start_merge, install_save}
use Rattle.transcript.specs.Turns.{install_merge, abandon, tidy, revive}
use Rattle.transcript.specs.Turns.{Answer, commits, forgets, looks, starts, done, revives, down, busy, owed, nothing}
use Rattle.transcript.specs.Turns.{spent, fault, memory}
use Rattle.transcript.specs.Turns.{Turn, history_of}

-- the entry that may be left by an event that met a fault: its own, or at a revive the earlier one
abbrev pub broken_off : Option Entry → Event → Option Entry
broken_off earlier (commit ops) = Some (entry.Commit ops)
broken_off earlier (forget to) = Some (entry.Forget to)
broken_off earlier look = None
broken_off earlier (wish which) = None
broken_off earlier start_save = None
broken_off earlier start_merge = None
broken_off earlier (install_save job) = None
broken_off earlier (install_merge job) = None
broken_off earlier (abandon job) = None
broken_off earlier tidy = None
broken_off earlier revive = earlier

-- the entry that may be left after a turn: none while no log is down, else the one whose fault took the log down
abbrev pub pending_behind : Option Entry → Event → Answer → Option ℕ → Option Entry
pending_behind earlier call answer None = None
pending_behind earlier call (commits reply) (Some count) = earlier
pending_behind earlier call (forgets reply) (Some count) = earlier
pending_behind earlier call (looks reply) (Some count) = earlier
pending_behind earlier call (starts job) (Some count) = earlier
pending_behind earlier call done (Some count) = earlier
pending_behind earlier call (revives at) (Some count) = earlier
pending_behind earlier call (down since) (Some count) = earlier
pending_behind earlier call (busy job) (Some count) = earlier
pending_behind earlier call (owed files) (Some count) = earlier
pending_behind earlier call (nothing number) (Some count) = earlier
pending_behind earlier call (spent number) (Some count) = earlier
pending_behind earlier call fault (Some count) = broken_off earlier call
pending_behind earlier call memory (Some count) = earlier

abbrev pub pending_after : Option Entry → List Turn → Option Entry
pending_after earlier [] = earlier
pending_after earlier (turn ∷ turns) = pending_after (pending_behind earlier turn.call turn.answer turn.down) turns

-- the entry that may be left after turns
abbrev pub pending_of : List Turn → Option Entry
pending_of turns = pending_after None turns

-- with these files an image shows the history of the first turns, at least so many of them, or it with the entry that
-- was broken off
pub record ShowsFrom (files : Files) (base : Base) (turns : List Turn) (least : ℕ) (image : Image) : Type 0 where
  pub count : ℕ
  pub enough : least ≤ count
  pub some : count ≤ length turns
  pub shows : ShowsWith files (history_of base (take count turns)) (pending_of (take count turns)) image

-- the store had a state after each turn, one after the other: in it each image of the logs, with the files of the yard,
-- shows the history of the turns up to it, or it with the entry that was broken off; and a crash since then leaves that
-- history at least. The first state is the one before all turns, the last one is now
pub record Acknowledges {D Y F B : Type 0} (of_disk : Disk.Ghosts D) (of_yard : Yard.Ghosts Y F B) (base : Base)
    (turns : List Turn) (old new : Store D Y) : Type 0 where
  pub states : List (Store D Y)
  pub each : length states ≡ length turns + 1
  pub first : slice_get states 0 ≡ Some old
  pub last : slice_get states (length turns) ≡ Some new
  pub told : (k : ℕ) (state : Store D Y) → slice_get states k ≡ Some state → IsSome (of_disk.seen state.disk)
  pub later : (k : ℕ) (state next : Store D Y) → slice_get states k ≡ Some state
      → slice_get states (k + 1) ≡ Some next → of_disk.moment state.disk ≤ of_disk.moment next.disk
  pub past : (k : ℕ) (state : Store D Y) → slice_get states k ≡ Some state
      → of_disk.moment state.disk ≤ of_disk.moment new.disk
  -- what a crash might have left then counts among what might have been left since
  pub stayed : (k : ℕ) (state : Store D Y) (c : Image) → slice_get states k ≡ Some state
      → of_disk.may_leave state.disk c → of_disk.left_since new.disk (of_disk.moment state.disk) c
  pub shows : (k : ℕ) (state : Store D Y) (files : Files) (c : Image) → slice_get states k ≡ Some state
      → files_of of_yard state.yard ≡ Some files → of_disk.may_leave state.disk c
      → ShowsWith files (history_of base (take k turns)) (pending_of (take k turns)) c
  pub left : (k : ℕ) (state : Store D Y) (files : Files) (c : Image) → slice_get states k ≡ Some state
      → files_of of_yard new.yard ≡ Some files → of_disk.left_since new.disk (of_disk.moment state.disk) c
      → ShowsFrom files base turns k c

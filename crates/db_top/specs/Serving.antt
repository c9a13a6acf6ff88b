-- What `run` does with the store of a directory and a client.
use Rattle.std.specs.Prelude.{ℕ, ◌≡◌, ◌⊎◌, ◌≤◌, IsTrue, List, All, IfSome, IsSome}
use Rattle.std.specs.Io.KnownBytes.{Consumes, Appends, IsAtEnd}
use Rattle.disk_model.specs.Causes.{Rose}
use Rattle.disk_model.specs.Files.{Files}
use Rattle.disk_model.specs.Logs.{Image}
use Rattle.disk_model.specs.declared.disk.Disk
use Rattle.disk_model.specs.declared.streams.Sink
use Rattle.disk_model.specs.declared.streams.Source
use Rattle.disk_model.specs.declared.world.Client.{Client}
use Rattle.disk_model.specs.declared.world.Store.{Store}
use Rattle.disk_model.specs.declared.yard.Yard
use Rattle.db_top.specs.Statuses.{refused_as, status_of}
use Rattle.db_top.specs.declared.status.Status.{Status}
use Rattle.doc_engine.specs.EngineState.{files_of}
use Rattle.doc_engine.specs.Opening.{RefusesOpening, longest_of}
use Rattle.doc_engine.specs.Representing.{KeepsFormat, ShowsWith}
use Rattle.doc_engine.specs.declared.refusal.OpenWhy.{OpenWhy}
use Rattle.doc_meaning.specs.History.{Base}
use Rattle.engine_session.specs.Attended.{AreCounted}
use Rattle.engine_session.specs.Ended.{HasEnded}
use Rattle.engine_session.specs.Pending.{Acknowledges, ShowsFrom, pending_of}
use Rattle.directory_meaning.specs.Directories.{KeepsShown, ShowsAs}
use Rattle.directory_meaning.specs.Shown.{Shows}
use Rattle.transcript.specs.Legal.{AreLegal}
use Rattle.transcript.specs.Transcript.{Agrees, Session}
use Rattle.transcript.specs.Turns.{Turn, history_of}
use Rattle.transcript.specs.declared.session_end.SessionEnd.TheVariants as end

module _ {D Y F B : Type 0} (disk : Disk.Ghosts D) (yard : Yard.Ghosts Y F B) where
  -- with these files the store keeps what turns entered since it was opened at a base
  pub record KeepsTurns (files : Files) (base : Base) (turns : List Turn) (before after : Store D Y) : Type 0 where
    pub told : IsSome (disk.seen after.disk)
    -- each image now shows the history of the turns, or it with the entry that a fault broke off
    pub now : (c : Image) → disk.may_leave after.disk c
        → ShowsWith files (history_of base turns) (pending_of turns) c
    -- each image since the store was handed out shows what one showed then, or the history of the first turns
    pub always : (c : Image) → disk.left_since after.disk (disk.moment before.disk) c
        → ((d : Image) × disk.may_leave before.disk d × ShowsAs files d c) ⊎ ShowsFrom files base turns 0 c
    -- while it was opened each image showed what one showed before. From then on it had a state after each turn, one
    -- after the other, and a crash since such a state leaves the turns up to it. This doesn't say when the client's
    -- bytes were written, since the streams and the disk have no clock in common
    pub opened : Store D Y
    pub opening : KeepsShown disk before.disk opened.disk
    pub goes_on : Acknowledges disk yard base turns opened after

  -- there are turns of the session's author alone, legal from a base, with which it agrees; the store keeps them, and
  -- its disk counted the faults of logs that they met
  pub record HasTurns (files : Files) (base : Base) (longest : ℕ) (before after : Store D Y) (session : Session)
      : Type 0 where
    pub turns : List Turn
    pub own : All (λ turn. turn.author ≡ session.author) turns
    pub legal : AreLegal base longest turns
    pub agrees : Agrees base turns session
    pub counted : AreCounted (disk.faults before.disk) (disk.faults after.disk) turns
    pub keeps : KeepsTurns files base turns before after

module _ {D Y F B I O P : Type 0} (disk : Disk.Ghosts D) (of_yard : Yard.Ghosts Y F B)
    (source : Source.Ghosts I) (sink : Sink.Ghosts O) where
  -- the client's bytes are those of a session that has ended; its source told its end only at its end, its port is as
  -- it was, and a fault is that of the source or the sink
  pub record HoldsSession (session : Session) (given back : Client I O P) : Type 0 where
    pub consumed : Consumes (source.left given.source) (source.left back.source) session.input
    pub appended : Appends (sink.written given.sink) (sink.written back.sink) session.output
    pub at_end : IsTrue session.over → IsAtEnd (source.left back.source)
    pub ended : HasEnded session.input session.output session.over session.how
    pub port : (back.port ≡ given.port) × (session.faults ≡ 0) × (session.reads ≡ 0)
    pub read_fault : session.how ≡ end.ReadFault → Rose (source.faults given.source) (source.faults back.source)
    pub write_fault : session.how ≡ end.WriteFault → Rose (sink.faults given.sink) (sink.faults back.sink)

  -- the directory keeps the format of logs and was opened, and a client attended till its session ended: over the base
  -- that logs and files showed, if they showed one
  pub record Attends (before after : Store D Y) (given back : Client I O P) (result : Status) : Type 0 where
    pub session : Session
    pub holds : HoldsSession session given back
    pub format : IfSome (disk.seen before.disk) (λ image. IfSome (files_of of_yard before.yard) (λ files.
        KeepsFormat files image))
    pub attended : IfSome (disk.seen before.disk) (λ image. IfSome (files_of of_yard before.yard) (λ files.
        (base : Base) → Shows files image base
        → HasTurns disk of_yard files base (longest_of image) before after session))
    pub ends : result ≡ status_of session.how

  -- the directory wasn't opened, for this reason, and the client not asked; each image shows what one showed before
  pub record Refuses (before after : D) (given back : Client I O P) (result : Status) : Type 0 where
    pub why : OpenWhy
    pub refuses : RefusesOpening disk before after why
    pub keeps : IsSome (disk.seen before) → KeepsShown disk before after
    pub unasked : back ≡ given
    pub ends : result ≡ refused_as why

  -- a client was served with a store, or not; the store's files stay
  pub record ServesStore (before after : Store D Y) (given back : Client I O P) (result : Status) : Type 0 where
    pub serves : Attends before after given back result ⊎ Refuses before.disk after.disk given back result
    pub yard : after.yard ≡ before.yard
    pub later : disk.faults before.disk ≤ disk.faults after.disk

-- What a session did with an engine: the turns that it used, and what the engine is and its logs represent after them.
use Rattle.std.specs.Io.KnownBytes.{Appends, Consumes, IsAtEnd}
use Rattle.std.specs.Prelude.{ℕ, ◌≡◌, ◌+◌, ◌*◌, ◌^◌, ◌≤◌, Bool, List, length, All, None, Some, IfSome, IsTrue}
use Rattle.disk_model.specs.Causes.{Rose}
use Rattle.disk_model.specs.Files.{Files}
use Rattle.disk_model.specs.declared.disk.Disk
use Rattle.disk_model.specs.declared.streams.Sink
use Rattle.disk_model.specs.declared.streams.Source
use Rattle.disk_model.specs.declared.yard.Build
use Rattle.disk_model.specs.declared.yard.SealedFile
use Rattle.disk_model.specs.declared.yard.Yard
use Rattle.doc_engine.specs.EngineState.{IsAt, disk_of, down_since, files_of, journal_of, store_of, yard_of}
use Rattle.doc_engine.specs.Opening.{begins}
use Rattle.doc_engine.specs.Representing.{RepresentsHistory}
use Rattle.doc_engine.specs.declared.engine.Engine.{Engine}
use Rattle.doc_meaning.specs.History.{Base}
use Rattle.engine_session.specs.Ended.{HasEnded}
use Rattle.engine_session.specs.Pending.{Acknowledges, ShowsFrom, pending_of}
use Rattle.frame_log.specs.LogStates.{end_of}
use Rattle.disk_model.specs.Stretches.{Since}
use Rattle.journal.specs.JournalStates.{current_log}
use Rattle.transcript.specs.Legal.{AreLegal}
use Rattle.transcript.specs.Transcript.{Agrees}
use Rattle.transcript.specs.Turns.{Turn, down_of, history_of}
use Rattle.transcript.specs.declared.session_end.SessionEnd.{SessionEnd}
use Rattle.transcript.specs.declared.session_end.SessionEnd.TheVariants as end

-- each fault of a log that turns met was counted between these two counts of the disk
abbrev pub AreCounted : ℕ → ℕ → List Turn → Type 0
AreCounted before now turns =
    All (λ turn. IfSome turn.down (λ count. Rose before count × (count ≤ now))) turns

module _ {D Y F B : Type 0} {of_disk : Disk.Ghosts D} {of_yard : Yard.Ghosts Y F B} {of_file : SealedFile.Ghosts F}
    {of_build : Build.Ghosts B F} where
  -- where with these files the logs represented the base: what they represent after turns, and what a crash leaves
  -- since each of them; at each moment since before them a crash leaves what shows the history of the first turns, some
  -- number of them, or it with the entry that was broken off
  pub record Keeps (files : Files) (old new : Engine D Y F B of_disk of_yard of_file of_build) (base : Base)
      (turns : List Turn) : Type 0 where
    pub represents : RepresentsHistory of_disk files (journal_of new) (disk_of new) (history_of base turns)
        (pending_of turns)
    pub crash : Acknowledges of_disk of_yard base turns (store_of old) (store_of new)
    pub since : Since of_disk (disk_of old) (disk_of new) (ShowsFrom files base turns 0)

  -- turns of author 0 were taken with the engine
  pub record Takes (old new : Engine D Y F B of_disk of_yard of_file of_build) (base : Base) (longest : ℕ)
      (turns : List Turn) : Type 0 where
    pub own : All (λ turn. turn.author ≡ 0) turns
    pub legal : AreLegal base longest turns
    pub is_at : IsAt new (history_of base turns)
    pub down : down_since new ≡ down_of turns
    pub counts : AreCounted (of_disk.faults (disk_of old)) (of_disk.faults (disk_of new)) turns
    pub later : of_disk.faults (disk_of old) ≤ of_disk.faults (disk_of new)
    pub ends : end_of (current_log (journal_of new)) ≤ longest + 2 ^ 31 * length (history_of base turns).entries
    pub yard : yard_of new ≡ yard_of old
    pub keeps : (files : Files) → files_of of_yard (yard_of old) ≡ Some files
        → RepresentsHistory of_disk files (journal_of old) (disk_of old) (begins base) None
        → Keeps files old new base turns

  -- a session was attended: it agrees with turns that were taken with the engine
  pub record Attended (old new : Engine D Y F B of_disk of_yard of_file of_build) (base : Base) (longest : ℕ)
      (input output : List ℕ) (over : Bool) (how : SessionEnd) : Type 0 where
    pub turns : List Turn
    pub takes : Takes old new base longest turns
    pub agrees : Agrees base turns
        (record { author = 0; input = input; over = over; output = output; how = how; faults = 0; reads = 0 })

module _ {D Y F B I O : Type 0} {of_disk : Disk.Ghosts D} {of_yard : Yard.Ghosts Y F B} {of_file : SealedFile.Ghosts F}
    {of_build : Build.Ghosts B F} (of_source : Source.Ghosts I) (of_sink : Sink.Ghosts O) where
  -- a client was served with the engine: its bytes are those of a session that has ended, whose fault is that of the
  -- source or the sink; where the engine was up and at a base the session was attended over it
  pub record ServesLines (source source' : I) (sink sink' : O)
      (old new : Engine D Y F B of_disk of_yard of_file of_build) (how : SessionEnd) : Type 0 where
    pub input : List ℕ
    pub output : List ℕ
    pub over : Bool
    pub consumed : Consumes (of_source.left source) (of_source.left source') input
    pub appended : Appends (of_sink.written sink) (of_sink.written sink') output
    pub at_end : IsTrue over → IsAtEnd (of_source.left source')
    pub ended : HasEnded input output over how
    pub read_fault : how ≡ end.ReadFault → Rose (of_source.faults source) (of_source.faults source')
    pub write_fault : how ≡ end.WriteFault → Rose (of_sink.faults sink) (of_sink.faults sink')
    pub attended : (base : Base) (longest : ℕ) → IsAt old (begins base) → down_since old ≡ None
        → end_of (current_log (journal_of old)) ≤ longest
        → Attended old new base longest input output over how

-- A client that was served with a store, or not.
use Rattle.std.proofs.Common.{◌≡◌, ◌≤◌, Option, Some, None, IfSome, IsSome, inl, refl}
use Rattle.std.proofs.Common.{sym, subst, subst₂, ◌∙◌, arith}
use Rattle.db_top.proofs.Keeping.{has_turns, session_of}
use Rattle.db_top.specs.Serving.{Attends, HasTurns, HoldsSession, ServesStore}
use Rattle.db_top.specs.Statuses.{status_of}
use Rattle.db_top.specs.declared.status.Status.{Status}
use Rattle.disk_model.specs.declared.disk.Disk
use Rattle.disk_model.specs.declared.streams.Sink
use Rattle.disk_model.specs.declared.streams.Source
use Rattle.disk_model.specs.declared.world.Client.{Client}
use Rattle.disk_model.specs.declared.world.Store.{Store}
use Rattle.disk_model.specs.declared.yard.Build
use Rattle.disk_model.specs.declared.yard.SealedFile
use Rattle.disk_model.specs.declared.yard.Yard
use Rattle.doc_engine.specs.EngineState.{disk_of, files_of, store_of, yard_of}
use Rattle.doc_engine.specs.Opening.{OpensDirectory, longest_of}
use Rattle.doc_engine.specs.Representing.{KeepsFormat}
use Rattle.doc_engine.specs.declared.engine.Engine.{Engine}
use Rattle.doc_meaning.specs.History.{Base}
use Rattle.engine_session.specs.Attended.{ServesLines}
use Rattle.directory_meaning.specs.Directories.{KeepsShown}
use Rattle.directory_meaning.specs.Shown.{Shows}
use Rattle.transcript.specs.Transcript.{Session}
use Rattle.transcript.specs.declared.session_end.SessionEnd.{SessionEnd}

-- what follows where both are told
if_told : {A B : Type 0} {P Q : A → B → Type 0} (o : Option A) (held : Option B) → IfSome o (λ x. IfSome held (P x))
    → ((x : A) (y : B) → P x y → Q x y) → IfSome o (λ x. IfSome held (Q x))
if_told None held p then_xy = tt
if_told (Some x) None p then_xy = tt
if_told (Some x) (Some y) p then_xy = then_xy x y p

-- the same, with more that is told of the first
if_all_told : {A B K : Type 0} {P R : A → B → Type 0} {Q : A → Type 0} (o : Option A) (held : Option B)
    → IfSome o (λ x. IfSome held (P x)) → IfSome o Q → (IsSome o → K)
    → ((x : A) (y : B) → held ≡ Some y → P x y → Q x → K → R x y) → IfSome o (λ x. IfSome held (R x))
if_all_told None held p q k then_xy = tt
if_all_told (Some x) None p q k then_xy = tt
if_all_told (Some x) (Some y) p q k then_xy = then_xy x y refl p q (k refl)

module _ {D Y F B I O P : Type 0} (of_disk : Disk.Ghosts D) (of_yard : Yard.Ghosts Y F B)
    {of_file : SealedFile.Ghosts F} {of_build : Build.Ghosts B F} (source : Source.Ghosts I) (sink : Sink.Ghosts O)
    (before : Store D Y) (given back : Client I O P) where
  -- what is known of a store that was opened
  pub record HasOpened (opened : Engine D Y F B of_disk of_yard of_file of_build) : Type 0 where
    pub directory : OpensDirectory before.disk opened
    pub shown : IsSome (of_disk.seen before.disk)
        → KeepsShown of_disk before.disk (disk_of opened)
    pub yard : yard_of opened ≡ before.yard
    pub later : of_disk.faults before.disk ≤ of_disk.faults (disk_of opened)

  -- what is known of an engine with which a client was served
  pub record HasServed (opened closed : Engine D Y F B of_disk of_yard of_file of_build) (how : SessionEnd)
      : Type 0 where
    pub lines : ServesLines source sink given.source back.source given.sink back.sink opened closed how
    pub yard : yard_of closed ≡ yard_of opened
    pub later : of_disk.faults (disk_of opened) ≤ of_disk.faults (disk_of closed)
    pub port : back.port ≡ given.port

  module _ (opened closed : Engine D Y F B of_disk of_yard of_file of_build) (how : SessionEnd)
      (has_opened : HasOpened opened) (has_served : HasServed opened closed how) where
    -- the session that was served
    abbrev session : Session
    session = session_of has_served.lines.input has_served.lines.output has_served.lines.over how

    -- the client's bytes are those of a session that has ended
    holds_session : HoldsSession of_disk of_yard source sink session given back
    holds_session =
        let lines = has_served.lines in
        record {
          consumed = lines.consumed;
          appended = lines.appended;
          at_end = lines.at_end;
          ended = lines.ended;
          port = (has_served.port, refl, refl);
          read_fault = lines.read_fault;
          write_fault = lines.write_fault;
        }

    -- the logs and files kept their format
    keeps_format : IfSome (of_disk.seen before.disk) (λ image. IfSome (files_of of_yard before.yard) (λ files.
        KeepsFormat files image))
    keeps_format =
        subst (λ (y : Y). IfSome (of_disk.seen before.disk) (λ image. IfSome (files_of of_yard y) (λ files.
        KeepsFormat files image))) has_opened.yard
        (if_told (of_disk.seen before.disk) (files_of of_yard (yard_of opened)) has_opened.directory.opens
        (λ image files opens. opens.format))

    -- over the base that they showed the session has turns that the store keeps
    has_base_turns : IfSome (of_disk.seen before.disk) (λ image. IfSome (files_of of_yard before.yard) (λ files.
        (base : Base) → Shows files image base
        → HasTurns of_disk of_yard files base (longest_of image) before (store_of closed) session))
    has_base_turns =
        let directory = has_opened.directory in
        let lines = has_served.lines in
        subst (λ (y : Y). IfSome (of_disk.seen before.disk) (λ image. IfSome (files_of of_yard y) (λ files.
        (base : Base) → Shows files image base
        → HasTurns of_disk of_yard files base (longest_of image) before (store_of closed) session))) has_opened.yard
        (if_all_told (of_disk.seen before.disk) (files_of of_yard (yard_of opened)) directory.opens directory.longest
        has_opened.shown
        (λ image files held opens longest shown base shows.
        let begun = opens.begun base shows in
        has_turns files before opened closed shown base (longest_of image) lines.input lines.output lines.over how
        has_opened.later held begun.represents
        (lines.attended base (longest_of image) begun.is_at directory.up longest)))

    attends : Attends of_disk of_yard source sink before (store_of closed) given back (status_of how)
    attends = record {
      session = session;
      holds = holds_session;
      format = keeps_format;
      attended = has_base_turns;
      ends = refl;
    }

    -- a client was served with the store, which was closed
    pub serves_opened : (after : Store D Y) (result : Status) → after.disk ≡ disk_of closed
        → after.yard ≡ yard_of closed → result ≡ status_of how
        → ServesStore of_disk of_yard source sink before after given back result
    serves_opened after result disk yard ends = record {
      serves = inl (subst (λ (s : Status). Attends of_disk of_yard source sink before after given back s) (sym ends)
          (subst₂ (λ (d : D) (y : Y). Attends of_disk of_yard source sink before (record { disk = d; yard = y })
          given back (status_of how)) (sym disk) (sym yard) attends));
      yard = yard ∙ has_served.yard ∙ has_opened.yard;
      later = subst (λ (d : D). of_disk.faults before.disk ≤ of_disk.faults d) (sym disk)
          (omega (arith, has_opened.later, has_served.later));
    }

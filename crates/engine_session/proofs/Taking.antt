-- Turns that were taken with an engine, and one more.
use Rattle.std.proofs.Common.{◌≡◌, ◌≤◌, ◌+◌, ◌*◌, ◌^◌, ℕ, suc}
use Rattle.std.proofs.Common.{List, [], ◌∷◌, ◌++◌, length, Option, Some, None, IfSome, refl, sym, subst, subst₂}
use Rattle.std.proofs.Common.{◌∙◌, arith}
use Rattle.std.proofs.lemmas.List.Elements.{All-append}
use Rattle.disk_model.specs.Causes.{Rose}
use Rattle.disk_model.specs.Files.{Files}
use Rattle.disk_model.specs.Logs.{Image}
use Rattle.disk_model.specs.Moments.{Throughout}
use Rattle.disk_model.specs.declared.disk.Disk
use Rattle.disk_model.specs.declared.yard.Build
use Rattle.disk_model.specs.declared.yard.SealedFile
use Rattle.disk_model.specs.declared.yard.Yard
use Rattle.doc_engine.proofs.Representations.{represented_is_shown}
use Rattle.doc_engine.specs.EngineState.{IsAt, disk_of, down_since, files_of, journal_of, store_of, yard_of}
use Rattle.doc_engine.specs.Opening.{begins}
use Rattle.doc_engine.specs.Representing.{ShowsWith, RepresentsHistory}
use Rattle.doc_engine.specs.declared.engine.Engine.{Engine}
use Rattle.doc_meaning.specs.History.{Base, History}
use Rattle.doc_model.specs.declared.entry.Entry.{Entry}
use Rattle.engine_session.proofs.Crashing.{LeavesNow, acknowledges_more, acknowledges_none, shows_all, shows_more}
use Rattle.engine_session.proofs.Crashing.{since_more}
use Rattle.engine_session.proofs.Places.{at_more, single}
use Rattle.engine_session.proofs.Turning.{down_last, pending_last, same_more}
use Rattle.engine_session.specs.Attended.{AreCounted, Takes}
use Rattle.engine_session.specs.Pending.{ShowsFrom, pending_behind, pending_of}
use Rattle.frame_log.proofs.Stretches.{throughout_still}
use Rattle.frame_log.specs.LogStates.{end_of}
use Rattle.journal.specs.JournalStates.{current_log}
use Rattle.transcript.specs.Legal.{IsTurn}
use Rattle.transcript.specs.Turns.{Turn, down_after, down_of, entries_of, history_of}

-- a later count of the disk serves as well
pub counted_later : (before now later : ℕ) (list : List Turn) → now ≤ later → AreCounted before now list
    → AreCounted before later list
counted_later before now later list le counts k d lt = weaker _ (counts k d lt)
  where
    weaker : (o : Option ℕ) → IfSome o (λ count. Rose before count × (count ≤ now))
        → IfSome o (λ count. Rose before count × (count ≤ later))
    weaker None told = tt
    weaker (Some count) told = (told.0, omega (arith, told.1, le))

-- the count after turns is one of theirs
after_counted : (before now : ℕ) (count : Option ℕ) (list : List Turn)
    → IfSome count (λ n. Rose before n × (n ≤ now)) → AreCounted before now list
    → IfSome (down_after count list) (λ n. Rose before n × (n ≤ now))
after_counted before now count [] is counts = is
after_counted before now count (first ∷ list) is counts =
    after_counted before now first.down list (counts 0 first (omega arith))
    (λ k d lt. counts (suc k) d (omega (arith, lt)))

module _ {D Y F B : Type 0} {of_disk : Disk.Ghosts D} {of_yard : Yard.Ghosts Y F B} {of_file : SealedFile.Ghosts F}
    {of_build : Build.Ghosts B F}
    (at_now : LeavesNow of_disk)
    (first : Engine D Y F B of_disk of_yard of_file of_build) (base : Base) (longest : ℕ) where
  -- with the files that are kept each image shows what the logs represent
  shown_now : (files : Files) (now : Engine D Y F B of_disk of_yard of_file of_build) (h : History)
      (pending : Option Entry) → RepresentsHistory of_disk files (journal_of now) (disk_of now) h pending
      → (c : Image) → of_disk.may_leave (disk_of now) c → ShowsWith files h pending c
  shown_now files now h pending represents c may =
      represented_is_shown of_disk files (journal_of now) (disk_of now) h pending c represents may

  -- before the first turn
  pub takes_first : IsAt first (begins base) → down_since first ≡ None
      → end_of (current_log (journal_of first)) ≤ longest → Takes first first base longest []
  takes_first is up ends = record {
    own = λ k d lt. absurd (omega (arith, lt));
    legal = λ k turn at. absurd (cc);
    is_at = is;
    down = up;
    counts = λ k d lt. absurd (omega (arith, lt));
    later = omega arith;
    ends = omega (arith, ends);
    yard = refl;
    keeps = λ files holds represents. record {
      represents = represents;
      crash = acknowledges_none of_disk of_yard at_now files base (store_of first) represents.represents.0.0.told holds
          (shown_now files first (begins base) None represents);
      since = throughout_still _ _ _ _ (λ c left. (at_now (disk_of first) c).0 left)
          (λ c left. shows_all files base [] 0 c (omega arith)
          (shown_now files first (begins base) None represents c left));
    };
  }

  module _ (old new : Engine D Y F B of_disk of_yard of_file of_build) (list : List Turn) (turn : Turn)
      (takes : Takes first old base longest list) (own : turn.author ≡ 0)
      (follows : IsTurn base longest list turn) where
    -- a turn more, by what changed
    pub takes_more : IsAt new (history_of base (list ++ turn ∷ [])) → down_since new ≡ turn.down
        → IfSome turn.down (λ count. Rose (of_disk.faults (disk_of first)) count
        × (count ≤ of_disk.faults (disk_of new)))
        → of_disk.faults (disk_of old) ≤ of_disk.faults (disk_of new)
        → end_of (current_log (journal_of new))
        ≤ longest + 2 ^ 31 * length (history_of base (list ++ turn ∷ [])).entries
        → yard_of new ≡ yard_of old
        → ((files : Files) → RepresentsHistory of_disk files (journal_of old) (disk_of old) (history_of base list)
        (pending_of list)
        → RepresentsHistory of_disk files (journal_of new) (disk_of new)
        (history_of base (list ++ turn ∷ [])) (pending_of (list ++ turn ∷ []))
        × Throughout (of_disk.moment (disk_of old)) (of_disk.moment (disk_of new))
        (of_disk.left_since (disk_of old)) (of_disk.left_since (disk_of new))
        (λ c. ShowsFrom files base (list ++ turn ∷ []) (length list) c))
        → Takes first new base longest (list ++ turn ∷ [])
    takes_more is down counted later ends yard keeps =
        let counted_by : Turn → Type 0 = λ t. IfSome t.down (λ count. Rose (of_disk.faults (disk_of first)) count
        × (count ≤ of_disk.faults (disk_of new))) in
        record {
          own = All-append (λ (t : Turn). t.author ≡ 0) list (turn ∷ []) takes.own
              (single (λ (t : Turn). t.author ≡ 0) turn own);
          legal = at_more (IsTurn base longest) list turn takes.legal follows;
          is_at = is;
          down = down ∙ sym (down_last None list turn);
          counts = All-append counted_by list (turn ∷ [])
              (counted_later _ _ _ list later takes.counts) (single counted_by turn counted);
          later = omega (arith, takes.later, later);
          ends = ends;
          yard = yard ∙ takes.yard;
          keeps = λ files holds represents.
              let kept = takes.keeps files holds represents in
              let step = keeps files kept.represents in
              record {
                represents = step.0;
                crash = acknowledges_more of_disk of_yard at_now files base list turn (store_of first) (store_of old)
                    (store_of new) kept.crash step.1 step.0.represents.0.0.told yard
                    (subst (λ (y : Y). files_of of_yard y ≡ Some files) (sym (yard ∙ takes.yard)) holds)
                    (shown_now files new (history_of base (list ++ turn ∷ [])) (pending_of (list ++ turn ∷ []))
                    step.0);
                since = since_more of_disk of_yard at_now files base list turn (disk_of first) (disk_of old)
                    (disk_of new) kept.since step.1;
              };
        }

  -- a turn after which the engine is the same, and that makes no entry
  module _ (now : Engine D Y F B of_disk of_yard of_file of_build) (list : List Turn) (turn : Turn)
      (takes : Takes first now base longest list) (own : turn.author ≡ 0) (follows : IsTurn base longest list turn)
      (none : entries_of turn.call turn.answer ≡ []) (down : turn.down ≡ down_of list)
      (pending : pending_behind (pending_of list) turn.call turn.answer turn.down ≡ pending_of list) where
    same : history_of base (list ++ turn ∷ []) ≡ history_of base list
    same = same_more base list turn none

    pends : pending_of (list ++ turn ∷ []) ≡ pending_of list
    pends = pending_last None list turn ∙ pending

    pub takes_same : Takes first now base longest (list ++ turn ∷ [])
    takes_same =
        takes_more now now list turn takes own follows
        (subst (λ (h : History). IsAt now h) (sym same) takes.is_at)
        (takes.down ∙ sym down)
        (subst (λ (o : Option ℕ). IfSome o (λ count. Rose (of_disk.faults (disk_of first)) count
        × (count ≤ of_disk.faults (disk_of now)))) (sym down)
        (after_counted (of_disk.faults (disk_of first)) (of_disk.faults (disk_of now)) None list tt
        takes.counts))
        (omega arith)
        (subst (λ (h : History). end_of (current_log (journal_of now)) ≤ longest + 2 ^ 31 * length h.entries)
        (sym same) takes.ends)
        refl
        (λ files represents. (
          subst₂ (λ (h : History) (p : Option Entry).
              RepresentsHistory of_disk files (journal_of now) (disk_of now) h p) (sym same) (sym pends)
              represents,
          throughout_still _ _ _ _ (λ c left. (at_now (disk_of now) c).0 left)
              (λ c left. shows_more files base list turn (length list) c
              (shows_all files base list (length list) c (omega arith)
              (shown_now files now (history_of base list) (pending_of list) represents c left))),
        ))

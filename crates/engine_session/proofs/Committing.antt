-- The turn of a commit.
use Rattle.std.proofs.Common.{◌≡◌, ◌≤◌, ◌+◌, ◌^◌, inl, inr, ⊎_elim, ℕ, true, false, nat_le, List}
use Rattle.std.proofs.Common.{[], ◌∷◌, ◌++◌, map, length, Option, Some, None, IfSome, refl, sym, subst, subst₂, ap, ◌∙◌}
use Rattle.std.proofs.Common.{length-append, Result, Ok, Err, arith}
use Rattle.std.proofs.lemmas.Bool.{leb-true}
use Rattle.std.specs.List.{All, find}
use Rattle.disk_model.specs.Causes.{Rose}
use Rattle.disk_model.specs.declared.disk.Disk
use Rattle.disk_model.specs.declared.yard.Build
use Rattle.disk_model.specs.declared.yard.SealedFile
use Rattle.disk_model.specs.declared.yard.Yard
use Rattle.doc_engine.specs.Checks.{IsShort, end_with}
use Rattle.doc_engine.specs.EngineState.{IsAt, disk_of, down_since, front_of, journal_of}
use Rattle.doc_engine.specs.Representing.{ShowsWith, RepresentsHistory}
use Rattle.doc_engine.specs.declared.engine.Engine.{Engine}
use Rattle.doc_engine.specs.declared.refusal.CommitRefusal.{CommitRefusal}
use Rattle.doc_engine.specs.declared.refusal.CommitRefusal.TheVariants as refusal
use Rattle.doc_meaning.specs.History.{Base, History, latest}
use Rattle.doc_meaning.specs.Replies.{differs, first_twice, is_spent}
use Rattle.doc_model.specs.Operations.{AreOps, uri_of}
use Rattle.doc_model.specs.declared.entry.Entry.{Entry}
use Rattle.doc_model.specs.declared.entry.Entry.TheVariants as entry
use Rattle.doc_model.specs.declared.op.Op.{Op}
use Rattle.engine_session.proofs.Crashing.{LeavesNow, shows_all, shows_more}
use Rattle.engine_session.proofs.Saying.{answer_of, conflict_free, rose_earlier, twice_free}
use Rattle.engine_session.proofs.Taking.{takes_more, takes_same}
use Rattle.engine_session.proofs.Turning.{behind_none, one_more, pending_last, pending_stays, same_more, turn_of}
use Rattle.engine_session.proofs.Turning.{up_none}
use Rattle.engine_session.specs.Attended.{Takes}
use Rattle.engine_session.specs.Pending.{pending_behind, pending_of}
use Rattle.engine_session.specs.Step.{HasCommitted}
use Rattle.frame_log.proofs.Stretches.{throughout_weaker}
use Rattle.transcript.specs.Legal.{AnswersEvent, IsDown, IsTurn, MayBeFull, UnlessDown}
use Rattle.transcript.specs.Turns.{Answer, Turn, commit, commits, down, down_of, entries_of, fault, history_of}

module _ {D Y F B : Type 0} {of_disk : Disk.Ghosts D} {of_yard : Yard.Ghosts Y F B} {of_file : SealedFile.Ghosts F}
    {of_build : Build.Ghosts B F}
    (at_now : LeavesNow of_disk)
    (first : Engine D Y F B of_disk of_yard of_file of_build) (base : Base) (longest : ℕ)
    (old new : Engine D Y F B of_disk of_yard of_file of_build) (ops : List Op) (asked : AreOps ops) (list : List Turn)
    (takes : Takes first old base longest list) where
  h : History
  h = history_of base list

  -- the turn of the commit with this answer
  abbrev pub commit_turn : Result ℕ CommitRefusal → Turn
  commit_turn result = turn_of (commit ops) (answer_of result) (down_since new)

  end : ℕ
  end = end_with (journal_of old) (front_of old + 1) ops

  -- the journal may be full only where the entries that came about may fill it
  may_be_full : IsShort (journal_of old) (front_of old + 1) ops
      → MayBeFull base longest list (nat_le (2 ^ 62) end)
  unfolding end
  may_be_full near full = omega (arith, leb-true (2 ^ 62) end full, near, takes.ends)

  -- where no log is down the answer is as defined
  as_defined : (answer : Answer) → down_since old ≡ None → AnswersEvent base longest list (commit ops) answer
      → UnlessDown true (down_of list) answer (AnswersEvent base longest list (commit ops) answer)
  as_defined answer up defined =
      subst (λ (d : Option ℕ). UnlessDown true d answer (AnswersEvent base longest list (commit ops) answer))
      (sym up ∙ takes.down) defined

  -- where an engine that was left as it was is down, so the turns were before
  still_down : new ≡ old → down_since new ≡ down_of list
  still_down same =
      ap (λ (e : Engine D Y F B of_disk of_yard of_file of_build). down_since e) same ∙ takes.down

  -- a refusal that leaves the engine as it was
  refused : (result : Result ℕ CommitRefusal) → new ≡ old → IsTurn base longest list (commit_turn result)
      → ((n : ℕ) → pending_behind (pending_of list) (commit ops) (answer_of result) (Some n) ≡ pending_of list)
      → entries_of (commit ops) (answer_of result) ≡ []
      → Takes first new base longest (list ++ commit_turn result ∷ [])
  refused result same follows stays none =
      subst (λ (e : Engine D Y F B of_disk of_yard of_file of_build).
      Takes first e base longest (list ++ commit_turn result ∷ [])) (sym same)
      (takes_same at_now first base longest old list (commit_turn result) takes refl follows none (still_down same)
      (pending_stays list (commit ops) (answer_of result) (down_since new) (still_down same) stays))

  -- a commit that was entered
  entered : (at : ℕ) → HasCommitted old new ops (Ok at)
      → Takes first new base longest (list ++ commit_turn (Ok at) ∷ [])
  unfolding h end
  entered at has =
      let is = takes.is_at in
      let up = has.answers.cause.0 in
      let lasts = has.answers.cause.1 in
      let list_up : down_of list ≡ None = sym takes.down ∙ up in
      let whole = one_more base list (commit_turn (Ok at)) (entry.Commit ops) refl in
      let pends : pending_of (list ++ commit_turn (Ok at) ∷ []) ≡ None =
      pending_last None list (commit_turn (Ok at))
      ∙ behind_none (pending_of list) (commit ops) (answer_of (Ok at)) (down_since new) lasts in
      takes_more at_now first base longest old new list (commit_turn (Ok at)) takes refl
      (record {
        asked = asked;
        of_job = tt;
        answers = inr (as_defined (answer_of (Ok at)) up
            (inl (nat_le (2 ^ 62) end, may_be_full has.growth.1, ap commits (has.answers.reply h is))));
        is_down = lasts ∙ sym list_up;
      })
      (subst (λ (g : History). IsAt new g) (sym whole) (has.answers.goes_on h is))
      refl
      (subst (λ (o : Option ℕ). IfSome o (λ count. Rose (of_disk.faults (disk_of first)) count
      × (count ≤ of_disk.faults (disk_of new)))) (sym lasts) tt)
      has.answers.later
      (omega (
        arith,
        has.growth.0,
        has.growth.1,
        takes.ends,
        ap (λ (g : History). length g.entries) whole,
        length-append h.entries (entry.Commit ops ∷ []),
      ))
      has.rest.yard
      (λ files represents.
      let enters = has.crash files h is (subst (λ (p : Option Entry).
      RepresentsHistory of_disk files (journal_of old) (disk_of old) h p)
      (up_none list list_up) represents) in (
        subst₂ (λ (g : History) (p : Option Entry).
            RepresentsHistory of_disk files (journal_of new) (disk_of new) g p)
            (sym whole) (sym pends) enters.now,
        throughout_weaker _ _ _ _ _ _ enters.any_moment (λ c shows. ⊎_elim
            (λ here. shows_more files base list (commit_turn (Ok at)) (length list) c
            (shows_all files base list (length list) c (omega arith)
            (subst (λ (p : Option Entry). ShowsWith files h p c) (sym (up_none list list_up)) here)))
            (λ next. shows_all files base (list ++ commit_turn (Ok at) ∷ []) (length list) c
            (omega (arith, length-append list (commit_turn (Ok at) ∷ [])))
            (subst₂ (λ (g : History) (p : Option Entry). ShowsWith files g p c) (sym whole) (sym pends) next))
            shows),
      ))

  -- a commit that a fault broke off
  broken : HasCommitted old new ops (Err refusal.Fault)
      → Takes first new base longest (list ++ commit_turn (Err refusal.Fault) ∷ [])
  unfolding h end
  broken has =
      let is = takes.is_at in
      let turn = commit_turn (Err refusal.Fault) in
      let up = has.answers.cause.0 in
      let rose = has.answers.cause.1 in
      let downs = has.answers.cause.2 in
      let list_up : down_of list ≡ None = sym takes.down ∙ up in
      let whole = same_more base list turn refl in
      let pends : pending_of (list ++ turn ∷ []) ≡ Some (entry.Commit ops) =
      pending_last None list turn
      ∙ ap (pending_behind (pending_of list) (commit ops) fault) downs in
      takes_more at_now first base longest old new list turn takes refl
      (record {
        asked = asked;
        of_job = tt;
        answers = inr (as_defined fault up (inr (refl, has.answers.would h is)));
        is_down = (of_disk.faults (disk_of new), downs, sets rose);
      })
      (subst (λ (g : History). IsAt new g) (sym whole) (has.answers.goes_on h is))
      refl
      (subst (λ (o : Option ℕ). IfSome o (λ count. Rose (of_disk.faults (disk_of first)) count
      × (count ≤ of_disk.faults (disk_of new)))) (sym downs)
      (rose_earlier _ _ _ takes.later rose, omega arith))
      has.answers.later
      (omega (arith, has.growth, takes.ends, ap (λ (g : History). length g.entries) whole))
      has.rest.yard
      (λ files represents.
      let enters = has.crash files h is (subst (λ (p : Option Entry).
      RepresentsHistory of_disk files (journal_of old) (disk_of old) h p)
      (up_none list list_up) represents) in (
        subst₂ (λ (g : History) (p : Option Entry).
            RepresentsHistory of_disk files (journal_of new) (disk_of new) g p)
            (sym whole) (sym pends) enters.now,
        throughout_weaker _ _ _ _ _ _ enters.any_moment (λ c shows.
            shows_all files base (list ++ turn ∷ []) (length list) c (omega (arith, length-append list (turn ∷ [])))
            (subst₂ (λ (g : History) (p : Option Entry). ShowsWith files g p c) (sym whole) (sym pends) shows)),
      ))
    where
      earlier_counts : (o : Option ℕ) → Rose (of_disk.faults (disk_of old)) (of_disk.faults (disk_of new))
          → IfSome o (λ count. Rose (of_disk.faults (disk_of first)) count × (count ≤ of_disk.faults (disk_of old)))
          → IfSome o (λ earlier. Rose earlier (of_disk.faults (disk_of new)))
      earlier_counts None rose told = tt
      earlier_counts (Some count) rose told = rose_earlier count _ _ told.1 rose

      sets : Rose (of_disk.faults (disk_of old)) (of_disk.faults (disk_of new))
          → All (λ (t : Turn). IfSome t.down (λ earlier. Rose earlier (of_disk.faults (disk_of new)))) list
      sets rose k d lt = earlier_counts _ rose (takes.counts k d lt)

  -- the turn that a refusal makes where no log is down
  follows_up : (result : Result ℕ CommitRefusal) → down_since old ≡ None → new ≡ old
      → AnswersEvent base longest list (commit ops) (answer_of result)
      → (down_since new ≡ down_of list → IsDown list (commit ops) (answer_of result) (down_since new))
      → IsTurn base longest list (commit_turn result)
  follows_up result up same defined downs = record {
    asked = asked;
    of_job = tt;
    answers = inr (as_defined (answer_of result) up defined);
    is_down = downs (still_down same);
  }

  -- the turn of a commit
  pub takes_commit : (result : Result ℕ CommitRefusal) → HasCommitted old new ops result
      → Takes first new base longest (list ++ commit_turn result ∷ [])
  unfolding h end
  takes_commit (Ok at) has = entered at has
  takes_commit (Err refusal.Fault) has = broken has
  takes_commit (Err (refusal.Down faults)) has =
      refused (Err (refusal.Down faults)) has.unchanged (record {
        asked = asked;
        of_job = tt;
        answers = inr (subst (λ (d : Option ℕ). UnlessDown true d (down faults)
            (AnswersEvent base longest list (commit ops) (down faults)))
            (sym has.answers.cause ∙ takes.down) refl);
        is_down = still_down has.unchanged;
      }) (λ n. refl) refl
  takes_commit (Err (refusal.Twice uri)) has =
      let whole = nat_le (2 ^ 62) end in
      refused (Err (refusal.Twice uri)) has.unchanged
      (follows_up (Err (refusal.Twice uri)) has.answers.cause has.unchanged
      (inl (
        false,
        (λ is. absurd (cc)),
        ap commits (twice_free (first_twice [] (map uri_of ops))
            (find (differs (latest h)) ops) h (is_spent whole h) (is_spent false h) uri
            (has.answers.reply h takes.is_at)),
      ))
      (λ is. is))
      (λ n. refl) refl
  takes_commit (Err (refusal.Conflict uri found at)) has =
      let whole = nat_le (2 ^ 62) end in
      refused (Err (refusal.Conflict uri found at)) has.unchanged
      (follows_up (Err (refusal.Conflict uri found at)) has.answers.cause has.unchanged
      (inl (
        false,
        (λ is. absurd (cc)),
        ap commits (conflict_free (first_twice [] (map uri_of ops))
            (find (differs (latest h)) ops) h (is_spent whole h) (is_spent false h) uri found at
            (has.answers.reply h takes.is_at)),
      ))
      (λ is. is))
      (λ n. refl) refl
  takes_commit (Err (refusal.Spent at to)) has =
      refused (Err (refusal.Spent at to)) has.unchanged
      (follows_up (Err (refusal.Spent at to)) has.answers.cause has.unchanged
      (inl (nat_le (2 ^ 62) end, may_be_full has.growth.1, ap commits (has.answers.reply h takes.is_at)))
      (λ is. is))
      (λ n. refl) refl
  takes_commit (Err refusal.Memory) has =
      refused (Err refusal.Memory) has.unchanged (record {
        asked = asked;
        of_job = tt;
        answers = inl (refl, refl);
        is_down = still_down has.unchanged;
      }) (λ n. refl) refl

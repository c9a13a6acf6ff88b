-- What logs represent while a commit is entered.
use Rattle.std.proofs.Common.{◌≡◌, ◌+◌, ℕ, List, [], ◌∷◌, map, inl, refl, sym, subst, subst₂, ap, None, Some, arith}
use Rattle.std.proofs.Common.{Result, Ok, Err, IsTrue}
use Rattle.std.proofs.lemmas.Result.{MatchResult-at_err, MatchResult-at_ok}
use Rattle.disk_model.specs.Files.{Files}
use Rattle.disk_model.specs.Logs.{Image}
use Rattle.disk_model.specs.Stretches.{Since}
use Rattle.disk_model.specs.declared.disk.Disk
use Rattle.doc_model.specs.Operations.{uri_of}
use Rattle.doc_model.specs.Tree.{is_distinct}
use Rattle.doc_model.specs.declared.entry.Entry.TheVariants.{Commit}
use Rattle.doc_model.specs.declared.op.Op.{Op}
use Rattle.doc_engine.proofs.Appending.{all_up}
use Rattle.doc_engine.proofs.Representations.{front_same, merge_same, shows_entry, represented_is_shown}
use Rattle.doc_engine.specs.Calls.{Enters, RepresentsAfter}
use Rattle.doc_engine.specs.Representing.{ShowsWith, RepresentsHistory}
use Rattle.doc_engine.specs.declared.refusal.CommitRefusal.{CommitRefusal}
use Rattle.doc_engine.specs.declared.refusal.CommitRefusal.TheVariants as refusal
use Rattle.doc_meaning.proofs.EntryLemmas.{merge_after_push}
use Rattle.doc_meaning.specs.History.{AreEntries, History, front, merge}
use Rattle.frame_log.proofs.Stretches.{throughout_still, throughout_weaker}
use Rattle.frame_log.specs.LogStates.{IsDown}
use Rattle.frame_log.specs.declared.refusal.LogRefusal.{LogRefusal}
use Rattle.journal.specs.Calls.{Adds, Appends}
use Rattle.journal.specs.JournalStates.{LogsRepresent, current_log, current_of}
use Rattle.journal.specs.declared.journal.Journal.{Journal}
use Rattle.journal_bodies.specs.Entries.{SpellsEntry}
use Rattle.directory_meaning.specs.Laws.{no_bodies}
use Rattle.directory_meaning.specs.Shown.{TellsAt, only_body, with_body, with_entry}
use Rattle.directory_meaning.proofs.AlikeLemmas.{entries_go_on_alike}
use Rattle.directory_meaning.proofs.EntryLemmas.{merge_push_within}
use Rattle.directory_meaning.proofs.NextLemmas.{another_entry_is_told}

-- all but a fault
abbrev pub IsNoFault : CommitRefusal → Type 0
IsNoFault (refusal.Down faults) = Unit {0}
IsNoFault (refusal.Twice uri) = Unit {0}
IsNoFault (refusal.Conflict uri found front) = Unit {0}
IsNoFault (refusal.Spent front end) = Unit {0}
IsNoFault refusal.Fault = ⊥
IsNoFault refusal.Memory = Unit {0}

module _ {D : Type 0} (of_disk : Disk.Ghosts D) (files : Files) where
  refused_represents : (journal : Journal) (disk : D) (h : History) (ops : List Op) (why : CommitRefusal)
      → IsNoFault why → RepresentsHistory of_disk files journal disk h None
      → RepresentsAfter of_disk files journal disk h ops (Err why)
  refused_represents journal disk h ops (refusal.Down faults) other represents = represents
  refused_represents journal disk h ops (refusal.Twice uri) other represents = represents
  refused_represents journal disk h ops (refusal.Conflict uri found at) other represents = represents
  refused_represents journal disk h ops (refusal.Spent at end) other represents = represents
  refused_represents journal disk h ops refusal.Fault other represents = absurd other
  refused_represents journal disk h ops refusal.Memory other represents = represents

  -- a commit that is refused before any device call leaves all as it was
  pub refused_enters : (journal : Journal) (disk : D) (h : History) (ops : List Op) (result : Result ℕ CommitRefusal)
      (why : CommitRefusal) → result ≡ Err why → IsNoFault why
      → ((c : Image) → of_disk.left_since disk (of_disk.moment disk) c → of_disk.may_leave disk c)
      → RepresentsHistory of_disk files journal disk h None
      → Enters of_disk files journal disk disk h ops result
  refused_enters journal disk h ops result why is other only represents = record {
    now = subst (RepresentsAfter of_disk files journal disk h ops) (sym is)
        (refused_represents journal disk h ops why other represents);
    any_moment = throughout_still _ _ _ _ only
        (λ c left. inl (represented_is_shown of_disk files journal disk h None c represents left));
  }

  module _ (old new : Journal) (before after : D) (h : History) (ops : List Op) (frame : List ℕ)
      (spelled : SpellsEntry frame (front h + 1) (Commit ops)) (distinct : IsTrue (is_distinct (map uri_of ops)))
      (represents : RepresentsHistory of_disk files old before h None) (result : Result (Unit {0}) LogRefusal)
      (entry : Appends of_disk frame old new before after result) where
    are : AreEntries (front h) (merge h) (Commit ops ∷ [])
    are = (spelled.values.0, distinct, tt)

    -- the frame goes to the same journal
    stays : current_of old ≡ current_of new
    stays = sym (entry.appends.answer represents.up).file

    -- what is known of the frames after the call
    adds : Adds of_disk (current_of old) frame new before after represents.kept result
    adds = entry.appends.frames represents.kept
        (subst (LogsRepresent of_disk old before represents.kept) represents.leaves represents.represents) represents.up

    -- at each moment the commit is shown, or not yet
    entering : Since of_disk before after (ShowsWith files h (Some (Commit ops)))
    entering = throughout_weaker _ _ _ _ _ _ adds.any_moment
        (λ c may. shows_entry files represents.kept (current_of old) represents.told represents.since h represents.same
        represents.ordered represents.tells c frame (Commit ops) spelled are may)

    -- the frame was broken off
    pub breaks_off : (e : LogRefusal) → result ≡ Err e → IsDown (current_log new)
        → Enters of_disk files new before after h ops (Err refusal.Fault)
    breaks_off e is down = record {
      now = record {
        told = represents.told;
        since = represents.since;
        kept = represents.kept;
        more = only_body (current_of old) frame;
        same = represents.same;
        ordered = represents.ordered;
        tells = subst (λ k. TellsAt files represents.kept k represents.told represents.since) stays represents.tells;
        leaves = (frame, spelled, ap (λ k. only_body k frame) stays);
        follows = are;
        represents = MatchResult-at_err
            (λ _. LogsRepresent of_disk new after (with_body represents.kept (current_of old) frame) no_bodies)
            (λ _. LogsRepresent of_disk new after represents.kept (only_body (current_of old) frame)) e is adds.now;
        up = down;
      };
      any_moment = entering;
    }

    -- the frame was added
    pub enters : (at : ℕ) → result ≡ Ok tt → Enters of_disk files new before after h ops (Ok at)
    enters at is =
        let fronts = front_same represents.told h represents.since represents.same in
        let merges = merge_same represents.told h represents.since represents.same in
        let kept = with_body represents.kept (current_of old) frame in
        record {
          now = record {
            told = with_entry represents.told (Commit ops);
            since = represents.since;
            kept = kept;
            more = no_bodies;
            same = entries_go_on_alike h represents.told represents.since (Commit ops) represents.ordered
                represents.same are;
            ordered = omega (
              arith,
              merge_push_within h (merge h) (Commit ops) represents.ordered are,
              merge_after_push h.base.merge h.entries (Commit ops),
            );
            tells = subst (λ k. TellsAt files kept k (with_entry represents.told (Commit ops)) represents.since) stays
                (another_entry_is_told files represents.kept (current_of old) represents.told represents.since frame
                (Commit ops) represents.tells
                (subst (λ n. SpellsEntry frame (n + 1) (Commit ops)) (sym fronts) spelled)
                (subst₂ (λ n low. AreEntries n low (Commit ops ∷ [])) (sym fronts) (sym merges) are));
            leaves = refl;
            follows = tt;
            represents = MatchResult-at_ok (λ _. LogsRepresent of_disk new after kept no_bodies)
                (λ _. LogsRepresent of_disk new after represents.kept (only_body (current_of old) frame)) tt is
                adds.now;
            up = all_up of_disk frame old new before after result entry represents.up is;
          };
          any_moment = entering;
        }

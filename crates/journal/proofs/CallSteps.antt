-- What the calls on a journal lead to.
use Rattle.std.proofs.Common.{if◌then◌else◌, ◌≡◌, ◌⊎◌, inl, inr, ◌<◌, ◌+◌, ◌∙◌, refl, sym, subst, ℕ, List, [], ◌∷◌, length, nat_lt, true, false, zero, suc, Option, Some, Result, arith}
use Rattle.std.proofs.lemmas.Bool.{lt-ltb}
use Rattle.disk_model.specs.declared.disk.Disk
use Rattle.directory_meaning.specs.Bodies.{Bodies}
use Rattle.directory_meaning.specs.Laws.{no_bodies}
use Rattle.directory_meaning.specs.Shown.{only_body, with_body}
use Rattle.frame_log.specs.Calls.{AppendAnswers}
use Rattle.frame_log.specs.LogStates.{file_of, end_of, IsEmpty}
use Rattle.frame_log.specs.declared.log.Log.{Log}
use Rattle.frame_log.specs.declared.refusal.LogRefusal.{LogRefusal}
use Rattle.frame_log.specs.declared.state.State.{State}
use Rattle.frame_log.specs.declared.state.State.TheVariants.{Healthy, Failed, GateUnknown}
use Rattle.journal.specs.Calls.{Adds, Appends, AppendsTo, broken_off_at}
use Rattle.journal.specs.JournalStates.{AreUp, LogsRepresent, current_log, has_frames, kept_root_log, next_root_log, root_log}
use Rattle.journal.specs.declared.broken_off.BrokenOff.{BrokenOff}
use Rattle.journal.specs.declared.broken_off.BrokenOff.TheVariants as broken
use Rattle.journal.specs.declared.journal.Journal.{Journal}
use Rattle.log_pair.specs.Calls.{AddsToCurrent, PairLeads}
use Rattle.log_pair.specs.PairStates.{current_of, first_of, other_of, PairRepresents, RepresentsAt}
use Rattle.log_pair.specs.PairStates as pair
use Rattle.log_pair.specs.Sparing.{KeepsToPair}
use Rattle.log_pair.specs.declared.pair.LogPair.{LogPair}
use Rattle.log_pair.proofs.Two.{CountsNow}
use Rattle.journal.proofs.Pairs.{alike, all_left, bodies_alike, body_alike, both_lead, both_turned, entries_apart, numbers, roots_apart, spared_leads, IsTurned}

-- what is broken off, where the gate is unknown and where it is not
pub broken_unknown : (state : State) (what : BrokenOff) (before : Option BrokenOff) → state ≡ GateUnknown
    → Some what ≡ broken_off_at state what before
broken_unknown Healthy what before is = absurd (cc)
broken_unknown Failed what before is = absurd (cc)
broken_unknown GateUnknown what before is = refl

pub broken_known : (state : State) (what : BrokenOff) (before : Option BrokenOff) → (state ≡ GateUnknown → ⊥)
    → before ≡ broken_off_at state what before
broken_known Healthy what before known = refl
broken_known Failed what before known = refl
broken_known GateUnknown what before known = absurd (known refl)

above : (n : ℕ) → (n ≡ 0 → ⊥) → 0 < n
above zero some = absurd (some refl)
above (suc n) some = omega arith

-- what is chosen by whether a log has frames
full_chosen : (log one other taken : Log) → (IsEmpty log → ⊥) → taken ≡ one
    → taken ≡ (if has_frames log then one else other)
full_chosen log one other taken full is =
    let some : nat_lt 0 (end_of log) ≡ true = lt-ltb 0 (end_of log) (above (end_of log) full) in
    rw some is

pub empty_chosen : (log one other taken : Log) → IsEmpty log → taken ≡ other
    → taken ≡ (if has_frames log then one else other)
empty_chosen log one other taken empty is =
    let none : nat_lt 0 (end_of log) ≡ false = subst (λ n. nat_lt 0 n ≡ false) (sym empty) refl in
    rw none is

-- the pair of root logs whose current one takes the next root
pub record TakesRoot (old : Journal) (mid : LogPair) : Type 0 where
  pub next : current_of mid ≡ next_root_log old
  pub rest : other_of mid ≡ kept_root_log old
  pub turned : IsTurned old.roots mid

pub takes_other : (old : Journal) (mid : LogPair) → (IsEmpty (root_log old) → ⊥) → current_of mid ≡ other_of old.roots
    → other_of mid ≡ root_log old → TakesRoot old mid
takes_other old mid full current other = record {
  next = full_chosen (root_log old) (other_of old.roots) (root_log old) (current_of mid) full current;
  rest = full_chosen (root_log old) (root_log old) (other_of old.roots) (other_of mid) full other;
  turned = inr (current, other);
}

pub takes_same : (old : Journal) (mid : LogPair) → IsEmpty (root_log old) → mid ≡ old.roots → TakesRoot old mid
takes_same old mid empty is = record {
  next = empty_chosen (root_log old) (other_of old.roots) (root_log old) (current_of mid) empty (rw is refl);
  rest = empty_chosen (root_log old) (root_log old) (other_of old.roots) (other_of mid) empty (rw is refl);
  turned = inl (rw is refl, rw is refl);
}

module _ {D : Type 0} (of_disk : Disk.Ghosts D) (old new : Journal) (before after : D)
    (counts : CountsNow of_disk after)
  where
    -- an append to the current journal
    adds_entry : {T : Type 0} (body : List ℕ) (result : Result T LogRefusal) → AreUp old
        → AddsToCurrent of_disk body old.entries new.entries before after result
        → KeepsToPair of_disk new.entries before after → new.roots ≡ old.roots
        → (kept : Bodies) → LogsRepresent of_disk old before kept no_bodies
        → Adds of_disk (file_of (current_log old)) body new before after kept result
    adds_entry body result up adds keeps roots kept represents =
        let file = file_of (current_log old) in
        let is = subst (λ n. (file ≡ n) ⊎ (file ≡ n + 1)) (old.journals ∙ sym new.journals) (numbers old.entries).0 in
        let apart = roots_apart new.entries new.roots new.journals new.root_logs in
        let here : PairLeads of_disk new.entries before after result (with_body kept file body) no_bodies kept
        (only_body file body) =
        adds kept no_bodies represents.0 up.0.0 in
        let there : PairLeads of_disk new.roots before after result (with_body kept file body) no_bodies kept
        (only_body file body) =
        spared_leads of_disk new.entries new.roots before after counts apart keeps.others kept no_bodies
        (subst (λ r. PairRepresents of_disk r before kept no_bodies) (sym roots) represents.1) result
        (with_body kept file body) no_bodies kept (only_body file body)
        (body_alike new.entries new.roots apart file is kept body) (alike new.roots no_bodies) (alike new.roots kept)
        (bodies_alike new.entries new.roots apart file is no_bodies (body ∷ [])) in
        record {
          now = both_lead of_disk new.entries new.roots new.journals new.root_logs before after result
              (with_body kept file body) no_bodies kept (only_body file body) here there;
          any_moment = all_left of_disk new.entries new.roots new.journals new.root_logs before after result
              (with_body kept file body) no_bodies kept (only_body file body) here there;
        }

    pub appends : {T : Type 0} (body : List ℕ) (result : Result T LogRefusal) → AreUp old
        → AppendAnswers of_disk.faults (current_log old) (current_log new) before after (length body) result
        → AddsToCurrent of_disk body old.entries new.entries before after result
        → KeepsToPair of_disk new.entries before after → new.roots ≡ old.roots
        → other_of new.entries ≡ other_of old.entries → new.frozen ≡ old.frozen
        → new.broken_off ≡ broken_off_at (current_log new).state broken.Entry old.broken_off
        → Appends of_disk body old new before after result
    appends body result up answer adds keeps roots other frozen broken = record {
      appends = record {
        down = λ down. absurd (down up);
        answer = λ _. answer;
        frames = λ kept represents _. adds_entry body result up adds keeps roots kept represents;
        broken = λ _. broken;
      };
      other = other;
      roots = roots;
      frozen = frozen;
    }

    -- an append to a root log
    module _ (mid : LogPair) (takes : TakesRoot old mid) where
      adds_root : {T : Type 0} (body : List ℕ) (result : Result T LogRefusal) → AreUp old
          → AddsToCurrent of_disk body mid new.roots before after result
          → KeepsToPair of_disk new.roots before after → new.entries ≡ old.entries
          → (kept : Bodies) → LogsRepresent of_disk old before kept no_bodies
          → Adds of_disk (file_of (current_of mid)) body new before after kept result
      adds_root body result up adds keeps entries kept represents =
          let file = file_of (current_of mid) in
          let first = old.root_logs ∙ sym new.root_logs in
          let is = subst (λ n. (file ≡ n) ⊎ (file ≡ n + 1)) first
          (both_turned (λ log. (file_of log ≡ first_of old.roots) ⊎ (file_of log ≡ first_of old.roots + 1)) old.roots
          mid
          takes.turned (numbers old.roots)).0 in
          let apart = entries_apart new.entries new.roots new.journals new.root_logs in
          let was = both_turned (RepresentsAt of_disk before kept no_bodies) old.roots mid takes.turned represents.1 in
          let here : PairLeads of_disk new.roots before after result (with_body kept file body) no_bodies kept
          (only_body file body) =
          adds kept no_bodies was (both_turned (λ log. log.state ≡ Healthy) old.roots mid takes.turned up.1).0 in
          let there : PairLeads of_disk new.entries before after result (with_body kept file body) no_bodies kept
          (only_body file body) =
          spared_leads of_disk new.roots new.entries before after counts apart keeps.others kept no_bodies
          (subst (λ r. PairRepresents of_disk r before kept no_bodies) (sym entries) represents.0) result
          (with_body kept file body) no_bodies kept (only_body file body)
          (body_alike new.roots new.entries apart file is kept body) (alike new.entries no_bodies)
          (alike new.entries kept) (bodies_alike new.roots new.entries apart file is no_bodies (body ∷ [])) in
          record {
            now = both_lead of_disk new.entries new.roots new.journals new.root_logs before after result
                (with_body kept file body) no_bodies kept (only_body file body) there here;
            any_moment = all_left of_disk new.entries new.roots new.journals new.root_logs before after result
                (with_body kept file body) no_bodies kept (only_body file body) there here;
          }

      pub appends_root : {T : Type 0} (body : List ℕ) (result : Result T LogRefusal) → AreUp old
          → AppendAnswers of_disk.faults (current_of mid) (root_log new) before after (length body) result
          → AddsToCurrent of_disk body mid new.roots before after result
          → KeepsToPair of_disk new.roots before after → new.entries ≡ old.entries
          → new.broken_off ≡ broken_off_at (root_log new).state broken.Root old.broken_off
          → AppendsTo of_disk (next_root_log old) (root_log new) body broken.Root old new before after result
      appends_root body result up answer adds keeps entries broken = record {
        down = λ down. absurd (down up);
        answer = λ _. subst (λ log. AppendAnswers of_disk.faults log (root_log new) before after (length body) result)
            takes.next answer;
        frames = λ kept represents _. subst (λ log. Adds of_disk (file_of log) body new before after kept result)
            takes.next (adds_root body result up adds keeps entries kept represents);
        broken = λ _. broken;
      }

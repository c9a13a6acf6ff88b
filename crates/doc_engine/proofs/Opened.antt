-- A history whose entries were read.
use Rattle.std.proofs.Common.{◌≡◌, ◌≤◌, ◌<◌, ◌+◌, ◌-◌, ◌==◌, ℕ, zero, suc, Bool, true, false, cond, leb}
use Rattle.std.proofs.Common.{List, [], ◌∷◌, length, map, take, take_all, Option, None, Some, IfSome}
use Rattle.std.proofs.Common.{refl, sym, subst, subst₂, ap, ap₂, ◌∙◌, arith}
use Rattle.std.proofs.lemmas.Bool.{cond-false, cond-true, le-leb, lt-leb}
use Rattle.std.specs.Cmp.Lexicographic.{slice_cmp}
use Rattle.std.specs.FinMap.{empty, get-empty}
use Rattle.std.specs.Ordering.{nat_cmp}
use Rattle.directory_meaning.proofs.AlikeLemmas.{shown_begins}
use Rattle.directory_meaning.proofs.BaseLemmas.{always_empty, what_is_shown_is_a_base}
use Rattle.directory_meaning.proofs.OneLemmas.{one_root_told}
use Rattle.directory_meaning.proofs.ShownLemmas.{one_is_told}
use Rattle.directory_meaning.specs.Bodies.{Bodies, HasBodies}
use Rattle.directory_meaning.specs.Laws.{no_bodies}
use Rattle.directory_meaning.specs.Shown.{Shows, shown_from, without_first}
use Rattle.directory_meaning.specs.declared.logs.TheConstants.{DIRECTORY_LOGS}
use Rattle.disk_model.specs.Files.{Files}
use Rattle.disk_model.specs.Logs.{Image}
use Rattle.disk_model.specs.declared.disk.Disk
use Rattle.doc_engine.proofs.Stamps.{entries_by}
use Rattle.doc_engine.specs.Created.{CreatedBy}
use Rattle.doc_engine.specs.Finding.{Finds}
use Rattle.doc_engine.specs.Opening.{begins, longest_of}
use Rattle.doc_engine.specs.Representing.{RepresentsHistory}
use Rattle.doc_engine.specs.Restoring.{Restores}
use Rattle.doc_engine.specs.declared.found.Found.{Found}
use Rattle.doc_engine.specs.declared.restoring.Restored.{Restored}
use Rattle.doc_meaning.specs.History.{Base, Database, History, IsBase, after_entries, base_at, front, latest}
use Rattle.doc_meaning.specs.History.{merge_after, settings_of}
use Rattle.doc_model.specs.declared.entry.Entry.{Entry}
use Rattle.frame_log.proofs.Bytes.{ends_within}
use Rattle.frame_log.specs.Frames.{HasFrames, framed}
use Rattle.frame_log.specs.LogStates.{end_of}
use Rattle.journal.specs.JournalStates.{current_log, current_of}
use Rattle.journal.specs.Opening.{Opened}
use Rattle.journal.specs.declared.journal.Journal.{Journal}
use Rattle.journal.specs.declared.opening.Scanned.{Scanned}
use Rattle.journal_bodies.specs.Roots.{PlainRoot}

pub if_some : {A : Type 0} {P Q : A → Type 0} (o : Option A) → IfSome o P → ((x : A) → P x → Q x) → IfSome o Q
if_some None p then_x = tt
if_some (Some x) p then_x = then_x x p

-- no documents
abbrev pub empty_database : Database
empty_database = empty

-- the last database of a history
pub latest_over : (base : Base) (entries : List Entry) → latest (record { base = base; entries = entries })
    ≡ after_entries base.front entries (base_at base base.front)
latest_over base [] =
    let none : base.front + 0 ≡ base.front = omega arith in
    ap (λ at. cond (leb at base.front) (base_at base at)
    (after_entries base.front (take (at - base.front) []) (base_at base base.front))) none
    ∙ cond-true (leb base.front base.front) _ _ (le-leb base.front base.front (omega arith))
latest_over base (entry ∷ entries) =
    cond-false (leb (base.front + length (entry ∷ entries)) base.front) _ _
    (lt-leb (base.front + length (entry ∷ entries)) base.front (omega arith))
    ∙ ap (λ es. after_entries base.front es (base_at base base.front))
    (take_all (base.front + length (entry ∷ entries) - base.front) (entry ∷ entries) (omega arith))

-- what ends within a journal ends within the longer one
within_longest : (image : Image) (file end : ℕ) → file ≤ 1 → end ≤ length (image file) → end ≤ longest_of image
within_longest image zero end le short = omega (arith, short)
within_longest image (suc zero) end le short = omega (arith, short)
within_longest image (suc (suc n)) end le short = absurd (omega (arith, le))

at_most : (n m : ℕ) → n < m → n ≤ m
at_most n m lt = omega (arith, lt)

-- the frames of a log end within it, or none
none_or_within : (none : Bool) (bodies : List (List ℕ)) (bytes : List ℕ) → HasFrames bodies bytes
    → length (framed (cond none [] bodies)) ≤ length bytes
none_or_within true bodies bytes has = omega arith
none_or_within false bodies bytes has = at_most _ _ (ends_within bodies bytes _ refl has)

-- the frames of a log that was read, or of one that was reset, end within it
frames_within : (read : Bodies) (image : Image) (resets : Bool) (file : ℕ) → file < DIRECTORY_LOGS
    → HasBodies read image → length (framed (cond resets (without_first read) read file)) ≤ length (image file)
frames_within read image true file lt has = none_or_within (file == 0) (read file) (image file) (has file lt)
frames_within read image false file lt has = none_or_within false (read file) (image file) (has file lt)

-- the merge timestamp of a history that begins with a base isn't past its front
begins_ordered : (base : Base) → IsBase base → base.merge ≤ base.front + 0
begins_ordered base is = omega (arith, is.ordered)

module _ {D : Type 0} (of_disk : Disk.Ghosts D) (files : Files) (image : Image) (disk : D)
    (journal : Journal) (scanned : Scanned) (opened : Opened of_disk files image disk journal scanned) where
  -- the journal that goes on ends within the journals that were read
  ends_early : end_of (current_log journal) ≤ longest_of image
  ends_early =
      let file = current_of journal in
      let journals : file ≤ 1 = opened.tells.current.journal in
      let lt : file < DIRECTORY_LOGS = omega (arith, journals) in
      let at_end = opened.represents.0.0.at_end in
      let short = frames_within opened.read image opened.resets file lt opened.has in
      within_longest image file (end_of (current_log journal)) journals (omega (arith, at_end, short))

  -- what was restored is what the history holds whose entries were read
  module _ (restored : Restored)
      (restores : Restores scanned.root.checkpoint scanned.root.merge (map (λ e. e.1) scanned.entries.items)
      restored) where
    -- the front, the merge timestamp and the documents that were restored are those of the history
    restored_front : restored.front ≡ front opened.history
    restored_front = omega (arith, restores.front, opened.scans.base.front, ap length opened.scans.entries)

    restored_merge : restored.merge ≡ opened.merge
    restored_merge =
        let told = opened.scans.tells in
        let root = one_root_told opened.read scanned.root told.root opened.scans.newest told.newest in
        restores.merge
        ∙ ap₂ (λ (r : PlainRoot) es. merge_after r.merge es) root (sym opened.scans.entries)
        ∙ sym told.merged

    first_database : base_at opened.history.base opened.history.base.front ≡ empty_database
    first_database = always_empty files scanned.root opened.history.base opened.scans.base
        (opened.history.base.front - opened.history.base.merge)

    restored_live : restored.live ≡ latest opened.history
    restored_live = restores.live
        ∙ ap₂ (λ n es. after_entries n es empty_database) (sym opened.scans.base.front) (sym opened.scans.entries)
        ∙ ap (after_entries opened.history.base.front opened.history.entries) (sym first_database)
        ∙ sym (latest_over opened.history.base opened.history.entries)

    -- a base that the image shows is what is seen of the history that was read
    shown_here : (base : Base) → Shows files image base
        → (opened.merge ≤ front opened.history) × (base ≡ shown_from opened.merge opened.history)
    shown_here base shows =
        let one = one_is_told files image shows.bodies opened.read shows.history opened.history shows.merge opened.merge
        shows.has opened.has shows.tells opened.scans.tells in (
          subst₂ (λ (m : ℕ) (h : History). m ≤ front h) one.1 one.0 shows.ordered,
          shows.shown ∙ ap₂ shown_from one.1 one.0,
        )

    -- the logs represent each base that the image shows
    represented : (base : Base) → Shows files image base
        → RepresentsHistory of_disk files journal disk (begins base) None
    represented base shows =
        let is : IsBase base = what_is_shown_is_a_base files image base shows in
        record {
          told = opened.history;
          since = opened.merge;
          kept = cond opened.resets (without_first opened.read) opened.read;
          more = no_bodies;
          same = sym (shown_here base shows).1 ∙ sym (shown_begins base is);
          ordered = begins_ordered base is;
          tells = opened.tells;
          leaves = refl;
          follows = tt;
          represents = opened.represents;
          up = opened.up;
        }

    -- what was found of the history that was read
    pub finds : (found : Found) → found.journal ≡ journal → found.settings ≡ scanned.root.settings
        → found.restored ≡ restored
        → Finds of_disk files image disk found
    finds found journals settings restoreds =
        record {
          format = record {
            bodies = opened.read;
            history = opened.history;
            merge = opened.merge;
            has = opened.has;
            tells = opened.scans.tells;
          };
          state = record {
            front = ap (λ (r : Restored). r.front) restoreds ∙ restored_front;
            merge = ap (λ (r : Restored). r.merge) restoreds ∙ restored_merge;
            settings = ap settings_of settings ∙ sym opened.scans.base.settings;
            documents = ap (λ (r : Restored). r.live) restoreds ∙ restored_live;
          };
          shows = shown_here;
          represents = λ base shows. subst (λ j. RepresentsHistory of_disk files j disk (begins base) None)
              (sym journals) (represented base shows);
          longest = subst (λ j. end_of (current_log j) ≤ longest_of image) (sym journals) ends_early;
        }

-- no documents were created by any timestamp
pub none_by : (at : ℕ) → CreatedBy at empty_database
none_by at uri v met = absurd (cc (get-empty (slice_cmp nat_cmp) uri))

-- what is live was created by the front
pub restored_by : (checkpoint low : ℕ) (entries : List Entry) (restored : Restored)
    → Restores checkpoint low entries restored → CreatedBy restored.front restored.live
restored_by checkpoint low entries restored restores = subst₂ CreatedBy (sym restores.front) (sym restores.live)
    (entries_by checkpoint entries empty_database (none_by checkpoint))

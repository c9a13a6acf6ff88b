-- Images that show the same.
use Rattle.std.proofs.Common.{refl, ◌⊎◌, inl, inr, ⊎_elim, ◌≤◌, ◌∙◌, ap₂, subst, subst₂, ℕ, List, [], Option, Some, None, IsSome, IfSome, arith}
use Rattle.std.proofs.lemmas.List.{append-nil}
use Rattle.disk_model.specs.Files.{Files}
use Rattle.disk_model.specs.Logs.{Image}
use Rattle.disk_model.specs.Stretches.{OnlyRead, Since}
use Rattle.disk_model.specs.declared.disk.Disk
use Rattle.doc_meaning.specs.History.{Base, History, front}
use Rattle.directory_meaning.specs.Bodies.{Bodies, HasBodies, MayHaveBodies}
use Rattle.directory_meaning.specs.Directories.{KeepsShown, ShowsAs}
use Rattle.directory_meaning.specs.Laws.{no_bodies}
use Rattle.directory_meaning.specs.Shown.{Shows, Tells, shown_from, without_first}
use Rattle.directory_meaning.proofs.ShownLemmas.{one_is_told}
use Rattle.frame_log.specs.Frames.{HasFrames, MayHave}
use Rattle.frame_log.proofs.Stretches.{throughout_weaker}
use Rattle.log_pair.specs.Bodies.{with_bodies}
use Rattle.journal.proofs.Pairs.{each_file}

-- a log that may have the frames that are kept, and no others, has these
has_kept : (kept : List (List ℕ)) (bytes : List ℕ) → MayHave kept [] bytes → HasFrames kept bytes
has_kept kept bytes (inl has) = has
has_kept kept bytes (inr has) = subst (λ bodies. HasFrames bodies bytes) (append-nil kept) has

pub all_kept : (kept : Bodies) (image : Image) → MayHaveBodies kept no_bodies image → HasBodies kept image
all_kept kept image may file lt = has_kept (kept file) (image file) (may file lt)

some_kept : (kept : Bodies) (image : Image)
    → MayHaveBodies (with_bodies kept 0 []) (with_bodies no_bodies 0 (kept 0)) image
    → HasFrames [] (image 0) ⊎ HasFrames (kept 0) (image 0)
    → HasBodies kept image ⊎ HasBodies (without_first kept) image
some_kept kept image may (inl none) = inr (λ file lt. each_file file lt
    (λ k. HasFrames (without_first kept k) (image k)) none
    (has_kept (kept 1) (image 1) (may 1 (omega arith))) (has_kept (kept 2) (image 2) (may 2 (omega arith)))
    (has_kept (kept 3) (image 3) (may 3 (omega arith))))
some_kept kept image may (inr all) = inl (λ file lt. each_file file lt (λ k. HasFrames (kept k) (image k)) all
    (has_kept (kept 1) (image 1) (may 1 (omega arith))) (has_kept (kept 2) (image 2) (may 2 (omega arith)))
    (has_kept (kept 3) (image 3) (may 3 (omega arith))))

-- an image whose first journal is being emptied has all of its frames or none
pub kept_or_emptied : (kept : Bodies) (image : Image)
    → MayHaveBodies (with_bodies kept 0 []) (with_bodies no_bodies 0 (kept 0)) image
    → HasBodies kept image ⊎ HasBodies (without_first kept) image
kept_or_emptied kept image may = some_kept kept image may (may 0 (omega arith))

-- images whose frames tell one history show the same
module _ (files : Files) (some others : Bodies) (h : History) (m : ℕ) (one : Tells files some h m)
    (two : Tells files others h m) where
  shows_too : (c d : Image) → HasBodies some c → HasBodies others d → (base : Base) → Shows files c base
      → Shows files d base
  shows_too c d has also base shows =
      let same = one_is_told files c shows.bodies some shows.history h shows.merge m shows.has has shows.tells one in
      record {
        bodies = others;
        history = h;
        merge = m;
        has = also;
        tells = two;
        ordered = subst₂ (λ g n. n ≤ front g) same.0 same.1 shows.ordered;
        shown = shows.shown ∙ ap₂ shown_from same.1 same.0;
      }

pub shows_as : (files : Files) (some others : Bodies) (h : History) (m : ℕ) → Tells files some h m
    → Tells files others h m → (c d : Image) → HasBodies some c → HasBodies others d → ShowsAs files c d
shows_as files some others h m one two c d has also base = (
  shows_too files others some h m two one d c also has base,
  shows_too files some others h m one two c d has also base,
)

-- an image that is known
pub with_told : {A : Type 0} {P : A → Type 0} (Q : Type 0) (o : Option A) → IsSome o → IfSome o P
    → ((x : A) → P x → Q) → Q
with_told Q None told has go = absurd (cc)
with_told Q (Some x) told has go = go x has

-- an image, if it is known
pub if_told : {A : Type 0} {P Q : A → Type 0} (o : Option A) → IfSome o P → (IsSome o → (x : A) → P x → Q x)
    → IfSome o Q
if_told None has go = tt
if_told (Some x) has go = go refl x has

module _ {D : Type 0} (of_disk : Disk.Ghosts D) where
  -- what was only read shows what it showed
  pub read_shows : (old new : D) → OnlyRead of_disk old new → KeepsShown of_disk old new
  read_shows old new read files = throughout_weaker _ _ _ _ (of_disk.may_leave old)
      (λ c. (d : Image) × of_disk.may_leave old d × ShowsAs files d c) read.images
      (λ c was. (c, was, λ base. ((λ is. is), (λ is. is))))

  module _ (start old new : D) (image : Image) (read : Bodies) (h : History) (m : ℕ)
      (was : of_disk.may_leave start image) (has : HasBodies read image) (files : Files)
      (told : Tells files read h m) where
    -- where the logs have the frames that were read, an image shows what was read
    pub kept_shows : Since of_disk old new (MayHaveBodies read no_bodies)
        → Since of_disk old new (λ c. (d : Image) × of_disk.may_leave start d × ShowsAs files d c)
    kept_shows all = throughout_weaker _ _ _ _ (MayHaveBodies read no_bodies)
        (λ c. (d : Image) × of_disk.may_leave start d × ShowsAs files d c) all
        (λ c may. (image, was, shows_as files read read h m told told image c has (all_kept read c may)))

    -- so it does while the first journal is emptied, where none of its entries counts
    pub emptied_shows : Tells files (without_first read) h m
        → Since of_disk old new (MayHaveBodies (with_bodies read 0 []) (with_bodies no_bodies 0 (read 0)))
        → Since of_disk old new (λ c. (d : Image) × of_disk.may_leave start d × ShowsAs files d c)
    emptied_shows lost all = throughout_weaker _ _ _ _
        (MayHaveBodies (with_bodies read 0 []) (with_bodies no_bodies 0 (read 0)))
        (λ c. (d : Image) × of_disk.may_leave start d × ShowsAs files d c) all
        (λ c may. (
          image,
          was,
          ⊎_elim (λ (same : HasBodies read c). shows_as files read read h m told told image c has same)
              (λ (none : HasBodies (without_first read) c).
              shows_as files read (without_first read) h m told lost image c has none)
              (kept_or_emptied read c may),
        ))

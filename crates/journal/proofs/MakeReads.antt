-- What the root logs tell before the logs of a database are made.
use Rattle.std.proofs.Common.{◌≡◌, true, false, sym, subst, List, [], ℕ, Option, Some, None, IfSome, IsSome, MatchOption}
use Rattle.std.specs.Option.{is_some}
use Rattle.disk_model.specs.Logs.{Image}
use Rattle.disk_model.specs.declared.disk.Disk
use Rattle.directory_meaning.specs.Directories.{HasNoRoot, IsTaken, IsUsed}
use Rattle.directory_reading.specs.Reading.{IsNewestRoot}
use Rattle.directory_reading.specs.declared.newest.Newest.{Newest}
use Rattle.frame_log.specs.Frames.{HasFrames}
use Rattle.frame_log.proofs.ReadLemmas.{if_some_both}
use Rattle.journal.specs.Reading.{AreRootLogs}
use Rattle.journal.specs.declared.root_logs.RootLogs.{RootLogs}
use Rattle.journal.proofs.Makes.{is_taken, not_used, some_bodies}

is_none_of : {A : Type 0} {P : Type 0} (Q : A → Type 0) (o : Option A) → is_some o ≡ false → MatchOption o P Q → P
is_none_of Q None none is = is
is_none_of Q (Some x) none is = absurd (cc)

is_some_of : (bodies : ℕ → List (List ℕ)) (o : Option Newest) → is_some o ≡ true
    → MatchOption o ((bodies 2 ≡ []) × (bodies 3 ≡ [])) (IsNewestRoot bodies) → (bodies 2 ≡ []) × (bodies 3 ≡ []) → ⊥
is_some_of bodies None some is = absurd (cc)
is_some_of bodies (Some newest) some is = some_bodies bodies newest is

module _ {D : Type 0} (of_disk : Disk.Ghosts D) (old new : D) (found : RootLogs)
    (are : AreRootLogs of_disk old new found) where
  -- no newest root was found: no root log has a root
  pub has_no_root : is_some found.newest ≡ false → IfSome (of_disk.seen old) HasNoRoot
  has_no_root none =
      let both = is_none_of (IsNewestRoot are.bodies) found.newest none are.newest in
      if_some_both (of_disk.seen old) are.first_read.frames are.second_read.frames (λ image first second. (
        subst (λ (bodies : List (List ℕ)). HasFrames bodies (image 2)) both.0 first,
        subst (λ (bodies : List (List ℕ)). HasFrames bodies (image 3)) both.1 second,
      ))

  -- a newest root was found: the directory is taken
  pub has_root : is_some found.newest ≡ true → IfSome (of_disk.seen old) IsTaken
  has_root some = if_some_both (of_disk.seen old) are.first_read.frames are.second_read.frames
      (λ image first second. is_taken image (are.bodies 2) (are.bodies 3) first second are.first_roots are.second_roots
      (is_some_of are.bodies found.newest some are.newest))

-- what holds of logs without a root holds, where they are told
pub where_told : (R : Type 0) (seen after : Option Image) → after ≡ seen → IsSome seen → IfSome seen HasNoRoot
    → IfSome after (λ image. HasNoRoot image → R) → R
where_told R None after same told none go = absurd (cc)
where_told R (Some image) None same told none go = absurd (cc)
where_told R (Some image) (Some other) same told none go =
    let one : other ≡ image = cc in
    go (subst HasNoRoot (sym one) none)

-- a directory without a root isn't used
pub where_used : (X : Type 0) (seen : Option Image) → IfSome seen HasNoRoot → IfSome seen (λ image. IsUsed image → X)
where_used X None none = tt
where_used X (Some image) none = λ used. absurd (not_used image none used)

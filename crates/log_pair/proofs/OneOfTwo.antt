-- A call on one log of two: what it leaves of that one, and of the other.
use Rattle.std.proofs.Common.{◌≡◌, ◌≢◌, ◌≤◌, ◌+◌, ◌∙◌, refl, sym, ap, subst, ℕ, List, [], ◌∷◌, ◌++◌, length, Option, Some, None, Result, Ok, Err, MatchResult, arith}
use Rattle.std.proofs.lemmas.Bool.{eq-eqb, ne_eqb}
use Rattle.disk_model.specs.Changes.{Any, OnlyAt, Becomes}
use Rattle.disk_model.specs.Logs.{Image, CrashImages}
use Rattle.disk_model.specs.Stretches.{OnlyThis, Since, SparesOthers}
use Rattle.disk_model.specs.declared.disk.Disk
use Rattle.frame_log.specs.Frames.{MayHave}
use Rattle.frame_log.specs.LogStates.{file_of, Holds, IsTrimmed, IsUp, IsWithin, Leaves, Represents}
use Rattle.frame_log.specs.declared.log.Log.{Log}
use Rattle.frame_log.specs.declared.refusal.LogRefusal.{LogRefusal}
use Rattle.frame_log.proofs.OtherLemmas.{becomes_other, other_left, other_represents}
use Rattle.frame_log.proofs.Steps.{good_leaves, holds_more, leaves_good, leaves_may}
use Rattle.frame_log.proofs.Stretches.{throughout_weaker}
use Rattle.log_pair.specs.Bodies.{Bodies, MayHaveAt, with_bodies, with_body}
use Rattle.log_pair.specs.PairStates.{chosen, current_of, other_of, RepresentsAt}
use Rattle.log_pair.specs.declared.current.Current.{Current}
use Rattle.log_pair.specs.declared.current.Current.TheVariants.{First, Second}
use Rattle.log_pair.specs.declared.pair.LogPair.{LogPair}
use Rattle.log_pair.proofs.Two.{CountsNow}

-- of two logs the one that is chosen
pub chosen_first : (current : Current) (first second : Log) → current ≡ First → chosen current first second ≡ first
chosen_first current first second is = ap (λ v. chosen v first second) is

pub chosen_second : (current : Current) (first second : Log) → current ≡ Second → chosen current first second ≡ second
chosen_second current first second is = ap (λ v. chosen v first second) is

-- of two neighbouring logs the one that is current, and the one that isn't
apart_chosen : (current : Current) (first second : Log) → file_of second ≡ file_of first + 1
    → file_of (chosen current second first) ≢ file_of (chosen current first second)
apart_chosen First first second next same = omega (arith, next, same)
apart_chosen Second first second next same = omega (arith, next, same)

-- the two logs of a pair have two files
pub other_apart : (pair : LogPair) → file_of (other_of pair) ≢ file_of (current_of pair)
other_apart pair = apart_chosen pair.current pair.first pair.second pair.neighbours

pub current_apart : (pair : LogPair) → file_of (current_of pair) ≢ file_of (other_of pair)
current_apart pair same = other_apart pair (sym same)

-- bodies that differ at one log
pub bodies_here : (all : Bodies) (file : ℕ) (bodies : List (List ℕ)) → with_bodies all file bodies file ≡ bodies
bodies_here all file bodies = rw (eq-eqb file file refl) refl

pub bodies_there : (all : Bodies) (file : ℕ) (bodies : List (List ℕ)) (other : ℕ) → other ≢ file
    → with_bodies all file bodies other ≡ all other
bodies_there all file bodies other apart = rw (ne_eqb other file apart) refl

pub body_here : (all : Bodies) (file : ℕ) (body : List ℕ) → with_body all file body file ≡ all file ++ body ∷ []
body_here all file body = rw (eq-eqb file file refl) refl

pub body_there : (all : Bodies) (file : ℕ) (body : List ℕ) (other : ℕ) → other ≢ file
    → with_body all file body other ≡ all other
body_there all file body other apart = rw (ne_eqb other file apart) refl

trimmed_other : (file : ℕ) (log : Log) (seen after : Option Image) (old new : CrashImages) → file_of log ≢ file
    → Becomes (OnlyAt file Any) seen after → ((c : Image) → new c → OnlyThis old file c) → IsTrimmed log seen old
    → IsTrimmed log after new
trimmed_other file log None None old new apart becomes only is = tt
trimmed_other file log None (Some b) old new apart becomes only is = absurd (cc)
trimmed_other file log (Some a) None old new apart becomes only is = tt
trimmed_other file log (Some a) (Some b) old new apart becomes only is =
    λ c left. let (d, was, at) = only c left in ap length (at.others (file_of log) apart) ∙ is d was

-- a fact of both logs, by the result
pub both_now : {T : Type 0} (result : Result T LogRefusal) (P Q R S : Type 0)
    → MatchResult result (λ _. P) (λ _. Q) → MatchResult result (λ _. R) (λ _. S)
    → MatchResult result (λ _. P × R) (λ _. Q × S)
both_now (Ok v) P Q R S one two = (one, two)
both_now (Err e) P Q R S one two = (one, two)

pub by_result : {T : Type 0} (result : Result T LogRefusal) (P Q : Type 0) → P → Q
    → MatchResult result (λ _. P) (λ _. Q)
by_result (Ok v) P Q done refused = done
by_result (Err e) P Q done refused = refused

module _ {D : Type 0} (of_disk : Disk.Ghosts D) where
  -- a log that isn't down represents its frames and perhaps none more
  pub up_holds : (log : Log) (disk : D) (kept more : List (List ℕ)) → IsUp log → Represents of_disk log disk kept more
      → Holds of_disk log disk kept
  up_holds log disk kept more up represents = record {
    good = up;
    represents = record {
      told = represents.told;
      at_end = represents.at_end;
      images = λ c left. good_leaves log.state kept [] (c log.file) up
          (leaves_good log.state kept more (c log.file) up (represents.images c left));
    };
  }

  -- what is represented of its file
  pub at_file : (log : Log) (disk : D) (file : ℕ) → file_of log ≡ file → (all besides : Bodies)
      → Represents of_disk log disk (all file) (besides file) → RepresentsAt of_disk disk all besides log
  at_file log disk file is all besides represents =
      subst (λ n. Represents of_disk log disk (all n) (besides n)) (sym is) represents

  -- the log that was called
  module _ (called : Log) (before after : D) (file : ℕ) (is : file_of called ≡ file) where
    pub called_now : {T : Type 0} (result : Result T LogRefusal) (done kept more : List (List ℕ))
        (all besides held rest : Bodies) → all file ≡ done → held file ≡ kept → rest file ≡ more
        → MatchResult result (λ _. Holds of_disk called after done) (λ _. Represents of_disk called after kept more)
        → MatchResult result (λ _. RepresentsAt of_disk after all besides called)
        (λ _. RepresentsAt of_disk after held rest called)
    called_now (Ok v) done kept more all besides held rest all_is held_is rest_is now =
        at_file called after file is all besides (subst (λ l. Represents of_disk called after l (besides file))
        (sym all_is) (holds_more of_disk called after done (besides file) now))
    called_now (Err e) done kept more all besides held rest all_is held_is rest_is now =
        at_file called after file is held rest (subst (λ l. Represents of_disk called after l (rest file))
        (sym held_is) (subst (λ l. Represents of_disk called after kept l) (sym rest_is) now))

    pub called_may : (kept more : List (List ℕ)) (held rest : Bodies) → held file ≡ kept → rest file ≡ more
        → Since of_disk before after (λ c. MayHave kept more (c (file_of called)))
        → Since of_disk before after (MayHaveAt (file_of called) held rest)
    called_may kept more held rest held_is rest_is may = throughout_weaker _ _ _ _
        (λ c. MayHave kept more (c (file_of called))) (MayHaveAt (file_of called) held rest) may
        (λ c has. subst (λ n. MayHave (held n) (rest n) (c (file_of called))) (sym is)
        (subst (λ l. MayHave l (rest file) (c (file_of called))) (sym held_is)
        (subst (λ l. MayHave kept l (c (file_of called))) (sym rest_is) has)))

  -- the log that wasn't
  module _ (file : ℕ) (other : Log) (before after : D) (apart : file_of other ≢ file)
      (spares : SparesOthers of_disk file before after) where
    pub other_within : IsWithin other (of_disk.seen before) → IsWithin other (of_disk.seen after)
    other_within within = becomes_other (λ bytes. other.end + 1 ≤ length bytes) file (file_of other)
        (of_disk.seen before) (of_disk.seen after) apart spares.reads within

    pub other_trimmed : CountsNow of_disk after → IsTrimmed other (of_disk.seen before) (of_disk.may_leave before)
        → IsTrimmed other (of_disk.seen after) (of_disk.may_leave after)
    other_trimmed counts trimmed = trimmed_other file other (of_disk.seen before) (of_disk.seen after)
        (of_disk.may_leave before) (of_disk.may_leave after) apart spares.reads
        (λ c left. spares.images.each c (counts (of_disk.moment before) c spares.images.later left)) trimmed

    pub other_stays : (kept more held rest : Bodies) → held (file_of other) ≡ kept (file_of other)
        → rest (file_of other) ≡ more (file_of other) → CountsNow of_disk after
        → RepresentsAt of_disk before kept more other → RepresentsAt of_disk after held rest other
    other_stays kept more held rest held_is rest_is counts represents =
        subst (λ l. Represents of_disk other after l (rest (file_of other))) (sym held_is)
        (subst (λ l. Represents of_disk other after (kept (file_of other)) l) (sym rest_is)
        (other_represents of_disk file other before after apart spares (kept (file_of other)) (more (file_of other))
        counts represents))

    pub other_may : (kept more held rest : Bodies) → held (file_of other) ≡ kept (file_of other)
        → rest (file_of other) ≡ more (file_of other)
        → RepresentsAt of_disk before kept more other
        → Since of_disk before after (MayHaveAt (file_of other) held rest)
    other_may kept more held rest held_is rest_is represents = throughout_weaker _ _ _ _
        (λ c. Leaves other.state (kept (file_of other)) (more (file_of other)) (c (file_of other)))
        (MayHaveAt (file_of other) held rest)
        (other_left of_disk file other before after apart spares (kept (file_of other)) (more (file_of other))
        represents)
        (λ c leaves. subst (λ l. MayHave l (rest (file_of other)) (c (file_of other))) (sym held_is)
        (subst (λ l. MayHave (kept (file_of other)) l (c (file_of other))) (sym rest_is)
        (leaves_may other.state (kept (file_of other)) (more (file_of other)) (c (file_of other)) leaves)))

    -- after the call, by its result
    pub other_now : {T : Type 0} (result : Result T LogRefusal) (kept more all besides held rest : Bodies)
        → all (file_of other) ≡ kept (file_of other) → besides (file_of other) ≡ more (file_of other)
        → held (file_of other) ≡ kept (file_of other) → rest (file_of other) ≡ more (file_of other)
        → CountsNow of_disk after → RepresentsAt of_disk before kept more other
        → MatchResult result (λ _. RepresentsAt of_disk after all besides other)
        (λ _. RepresentsAt of_disk after held rest other)
    other_now (Ok v) kept more all besides held rest all_is besides_is held_is rest_is counts represents =
        other_stays kept more all besides all_is besides_is counts represents
    other_now (Err e) kept more all besides held rest all_is besides_is held_is rest_is counts represents =
        other_stays kept more held rest held_is rest_is counts represents

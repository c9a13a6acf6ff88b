-- A call on one pair of logs: what it leaves of both pairs.
use Rattle.std.proofs.Common.{◌≡◌, ◌≢◌, ◌⊎◌, inl, inr, ◌<◌, ◌+◌, ◌∙◌, refl, sym, subst, ℕ, zero, suc, List, Result, Ok, Err, MatchResult, arith}
use Rattle.std.proofs.lemmas.Bool.{ne_eqb}
use Rattle.disk_model.specs.Logs.{Image}
use Rattle.disk_model.specs.Stretches.{Since}
use Rattle.disk_model.specs.declared.disk.Disk
use Rattle.directory_meaning.specs.Bodies.{Bodies, MayHaveBodies}
use Rattle.directory_meaning.specs.Shown.{with_body}
use Rattle.directory_meaning.specs.declared.logs.TheConstants.{DIRECTORY_LOGS}
use Rattle.frame_log.specs.Frames.{MayHave}
use Rattle.frame_log.specs.LogStates.{file_of, Represents}
use Rattle.frame_log.specs.declared.log.Log.{Log}
use Rattle.frame_log.specs.declared.refusal.LogRefusal.{LogRefusal}
use Rattle.frame_log.proofs.Steps.{leaves_may}
use Rattle.frame_log.proofs.Stretches.{throughout_both, throughout_weaker}
use Rattle.log_pair.specs.Bodies.{with_bodies, MayHaveAt}
use Rattle.log_pair.specs.Calls.{KeepsPlace, PairLeads}
use Rattle.log_pair.specs.Laws.{ArePairsApart}
use Rattle.log_pair.specs.PairStates.{chosen, current_of, first_of, other_of, AreTrimmed, Both, LeavesAt, PairMayHave, PairRepresents, RepresentsAt}
use Rattle.log_pair.specs.Sparing.{IsApart, SparesOtherPairs}
use Rattle.log_pair.specs.declared.current.Current.{Current}
use Rattle.log_pair.specs.declared.current.Current.TheVariants.{First, Second}
use Rattle.log_pair.specs.declared.pair.LogPair.{LogPair}
use Rattle.log_pair.proofs.Two.{apart_left, apart_represents, apart_trimmed, CountsNow}

both_chosen : (Has : Log → Type 0) (current : Current) (first second : Log) → Has first → Has second
    → Has (chosen current first second) × Has (chosen current second first)
both_chosen Has First first second one two = (one, two)
both_chosen Has Second first second one two = (two, one)

each_chosen : (Has : Log → Type 0) (current : Current) (first second : Log)
    → Has (chosen current first second) × Has (chosen current second first) → Has first × Has second
each_chosen Has First first second both = both
each_chosen Has Second first second both = (both.1, both.0)

-- a fact of the first log and of the second one is one of the current log and of the other one
pub both_of : (Has : Log → Type 0) (pair : LogPair) → Has pair.first → Has pair.second → Both Has pair
both_of Has pair = both_chosen Has pair.current pair.first pair.second

pub each_of : (Has : Log → Type 0) (pair : LogPair) → Both Has pair → Has pair.first × Has pair.second
each_of Has pair = each_chosen Has pair.current pair.first pair.second

-- the number of each log of a pair
pub numbers : (pair : LogPair) → Both (λ log. (file_of log ≡ first_of pair) ⊎ (file_of log ≡ first_of pair + 1)) pair
numbers pair = both_of (λ log. (file_of log ≡ first_of pair) ⊎ (file_of log ≡ first_of pair + 1)) pair (inl refl)
    (inr pair.neighbours)

-- the journals are apart from the root logs, and these from the journals
pub roots_apart : (entries roots : LogPair) → first_of entries ≡ 0 → first_of roots ≡ 2 → ArePairsApart entries roots
roots_apart entries roots zeroth second = both_of (λ log. IsApart (first_of entries) (file_of log)) roots
    ((λ same. omega (arith, zeroth, second, same)), λ same. omega (arith, zeroth, second, same)) (
      (λ same. omega (arith, zeroth, second, same, roots.neighbours)),
      λ same. omega (arith, zeroth, second, same, roots.neighbours),
    )

pub entries_apart : (entries roots : LogPair) → first_of entries ≡ 0 → first_of roots ≡ 2 → ArePairsApart roots entries
entries_apart entries roots zeroth second = both_of (λ log. IsApart (first_of roots) (file_of log)) entries
    ((λ same. omega (arith, zeroth, second, same)), λ same. omega (arith, zeroth, second, same)) (
      (λ same. omega (arith, zeroth, second, same, entries.neighbours)),
      λ same. omega (arith, zeroth, second, same, entries.neighbours),
    )

first_chosen : (a b : Current) (first second third fourth : Log) → file_of second ≡ file_of first + 1
    → file_of fourth ≡ file_of third + 1 → file_of (chosen a first second) ≡ file_of (chosen b third fourth)
    → file_of (chosen a second first) ≡ file_of (chosen b fourth third) → file_of first ≡ file_of third
first_chosen First First first second third fourth next after is are = is
first_chosen First Second first second third fourth next after is are = omega (arith, next, after, is, are)
first_chosen Second First first second third fourth next after is are = omega (arith, next, after, is, are)
first_chosen Second Second first second third fourth next after is are = are

-- pairs whose logs have the same numbers
pub same_first : (one two : LogPair) → file_of (current_of one) ≡ file_of (current_of two)
    → file_of (other_of one) ≡ file_of (other_of two) → first_of one ≡ first_of two
same_first one two = first_chosen one.current two.current one.first one.second two.first two.second one.neighbours
    two.neighbours

pub same_place : (one two : LogPair) → KeepsPlace (current_of two) (current_of one)
    → KeepsPlace (other_of two) (other_of one) → first_of one ≡ first_of two
same_place one two current other = same_first one two current.0 other.0

-- the logs of a pair, of which perhaps the other one is current
abbrev pub IsTurned : LogPair → LogPair → Type 0
IsTurned old new = ((current_of new ≡ current_of old) × (other_of new ≡ other_of old))
    ⊎ ((current_of new ≡ other_of old) × (other_of new ≡ current_of old))

pub both_turned : (Has : Log → Type 0) (old new : LogPair) → IsTurned old new → Both Has old → Both Has new
both_turned Has old new (inl (current, other)) (one, two) = (subst Has (sym current) one, subst Has (sym other) two)
both_turned Has old new (inr (current, other)) (one, two) = (subst Has (sym current) two, subst Has (sym other) one)

-- the bodies of the logs of a pair are the same
abbrev pub AreAlike : LogPair → Bodies → Bodies → Type 0
AreAlike pair some others = Both (λ log. some (file_of log) ≡ others (file_of log)) pair

pub alike : (pair : LogPair) (some : Bodies) → AreAlike pair some some
alike pair some = (refl, refl)

-- a file of one pair is none of the other
apart_one : (first file : ℕ) (log : Log) → IsApart first (file_of log) → (file ≡ first) ⊎ (file ≡ first + 1)
    → file_of log ≢ file
apart_one first file log (this, next) (inl is) same = this (same ∙ is)
apart_one first file log (this, next) (inr is) same = next (same ∙ is)

module _ (one other : LogPair) (apart : ArePairsApart one other) (file : ℕ)
    (is : (file ≡ first_of one) ⊎ (file ≡ first_of one + 1)) where
  pub bodies_alike : (all : Bodies) (bodies : List (List ℕ)) → AreAlike other (with_bodies all file bodies) all
  bodies_alike all bodies = (
    rw (ne_eqb (file_of (current_of other)) file (apart_one (first_of one) file (current_of other) apart.0 is)) refl,
    rw (ne_eqb (file_of (other_of other)) file (apart_one (first_of one) file (other_of other) apart.1 is)) refl,
  )

  pub body_alike : (all : Bodies) (body : List ℕ) → AreAlike other (with_body all file body) all
  body_alike all body = (
    rw (ne_eqb (file_of (current_of other)) file (apart_one (first_of one) file (current_of other) apart.0 is)) refl,
    rw (ne_eqb (file_of (other_of other)) file (apart_one (first_of one) file (other_of other) apart.1 is)) refl,
  )

-- a fact of each of the four logs
pub each_file : (file : ℕ) → file < DIRECTORY_LOGS → (P : ℕ → Type 0) → P 0 → P 1 → P 2 → P 3 → P file
each_file zero lt P a b c d = a
each_file (suc zero) lt P a b c d = b
each_file (suc (suc zero)) lt P a b c d = c
each_file (suc (suc (suc zero))) lt P a b c d = d
each_file (suc (suc (suc (suc n)))) lt P a b c d = absurd (omega (arith, lt))

-- four logs have the frames that the two pairs have
all_may : (entries roots : LogPair) (kept more : Bodies) (image : Image) → first_of entries ≡ 0 → first_of roots ≡ 2
    → PairMayHave entries kept more image → PairMayHave roots kept more image → MayHaveBodies kept more image
all_may entries roots kept more image zeroth second some others file lt =
    let has = each_of (λ log. MayHaveAt (file_of log) kept more image) entries some in
    let have = each_of (λ log. MayHaveAt (file_of log) kept more image) roots others in
    let at : ℕ → Type 0 = λ n. MayHaveAt n kept more image in
    each_file file lt at (subst at zeroth has.0) (subst at (omega (arith, zeroth, entries.neighbours)) has.1)
    (subst at second have.0) (subst at (omega (arith, second, roots.neighbours)) have.1)

both_now : {T : Type 0} (result : Result T LogRefusal) (P Q R S : Type 0)
    → MatchResult result (λ _. P) (λ _. Q) → MatchResult result (λ _. R) (λ _. S)
    → MatchResult result (λ _. P × R) (λ _. Q × S)
both_now (Ok v) P Q R S one two = (one, two)
both_now (Err e) P Q R S one two = (one, two)

pub by_result : {T : Type 0} (result : Result T LogRefusal) (P Q : Type 0) → P → Q
    → MatchResult result (λ _. P) (λ _. Q)
by_result (Ok v) P Q done refused = done
by_result (Err e) P Q done refused = refused

module _ {D : Type 0} (of_disk : Disk.Ghosts D) where
  same_represents : (log : Log) (disk : D) (kept more held rest : Bodies) → held (file_of log) ≡ kept (file_of log)
      → rest (file_of log) ≡ more (file_of log) → RepresentsAt of_disk disk kept more log
      → RepresentsAt of_disk disk held rest log
  same_represents log disk kept more held rest held_is rest_is represents =
      subst (λ l. Represents of_disk log disk l (rest (file_of log))) (sym held_is)
      (subst (λ l. Represents of_disk log disk (kept (file_of log)) l) (sym rest_is) represents)

  same_may : (log : Log) (image : Image) (kept more held rest : Bodies) → held (file_of log) ≡ kept (file_of log)
      → rest (file_of log) ≡ more (file_of log) → LeavesAt kept more image log
      → MayHaveAt (file_of log) held rest image
  same_may log image kept more held rest held_is rest_is leaves =
      let file = file_of log in
      subst (λ l. MayHave l (rest file) (image file)) (sym held_is)
      (subst (λ l. MayHave (kept file) l (image file)) (sym rest_is)
      (leaves_may log.state (kept file) (more file) (image file) leaves))

  -- alike bodies of a pair
  pub alike_represents : (pair : LogPair) (disk : D) (kept more held rest : Bodies) → AreAlike pair held kept
      → AreAlike pair rest more → PairRepresents of_disk pair disk kept more
      → PairRepresents of_disk pair disk held rest
  alike_represents pair disk kept more held rest held_is rest_is represents = (
    same_represents (current_of pair) disk kept more held rest held_is.0 rest_is.0 represents.0,
    same_represents (other_of pair) disk kept more held rest held_is.1 rest_is.1 represents.1,
  )

  -- the pair that was spared
  pub spared_trimmed : (one other : LogPair) (before after : D) → CountsNow of_disk after → ArePairsApart one other
      → SparesOtherPairs of_disk (first_of one) before after
      → AreTrimmed other (of_disk.seen before) (of_disk.may_leave before)
      → AreTrimmed other (of_disk.seen after) (of_disk.may_leave after)
  spared_trimmed one other before after counts apart spares trimmed = (
    apart_trimmed of_disk (first_of one) (current_of other) before after apart.0 spares counts trimmed.0,
    apart_trimmed of_disk (first_of one) (other_of other) before after apart.1 spares counts trimmed.1,
  )

  module _ (one other : LogPair) (before after : D) (counts : CountsNow of_disk after) (apart : ArePairsApart one other)
      (spares : SparesOtherPairs of_disk (first_of one) before after) (kept more : Bodies)
      (represents : PairRepresents of_disk other before kept more) where
    pub spared_now : PairRepresents of_disk other after kept more
    spared_now = (
      apart_represents of_disk (first_of one) (current_of other) before after apart.0 spares kept more counts
          represents.0,
      apart_represents of_disk (first_of one) (other_of other) before after apart.1 spares kept more counts
          represents.1,
    )

    pub spared_may : (held rest : Bodies) → AreAlike other held kept → AreAlike other rest more
        → Since of_disk before after (PairMayHave other held rest)
    spared_may held rest held_is rest_is = throughout_weaker _ _ _ _
        (λ c. LeavesAt kept more c (current_of other) × LeavesAt kept more c (other_of other))
        (PairMayHave other held rest)
        (throughout_both _ _ _ _ (λ c. LeavesAt kept more c (current_of other))
        (λ c. LeavesAt kept more c (other_of other))
        (apart_left of_disk (first_of one) (current_of other) before after apart.0 spares kept more represents.0)
        (apart_left of_disk (first_of one) (other_of other) before after apart.1 spares kept more represents.1))
        (λ c leaves. (
          same_may (current_of other) c kept more held rest held_is.0 rest_is.0 leaves.0,
          same_may (other_of other) c kept more held rest held_is.1 rest_is.1 leaves.1,
        ))

    -- it is led where the one that was called is
    pub spared_leads : {T : Type 0} (result : Result T LogRefusal) (done besides held rest : Bodies)
        → AreAlike other done kept → AreAlike other besides more → AreAlike other held kept → AreAlike other rest more
        → PairLeads of_disk other before after result done besides held rest
    spared_leads result done besides held rest done_is besides_is held_is rest_is = record {
      now = by_result result _ _ (alike_represents other after kept more done besides done_is besides_is spared_now)
          (alike_represents other after kept more held rest held_is rest_is spared_now);
      any_moment = spared_may held rest held_is rest_is;
    }

  -- both pairs
  module _ {T : Type 0} (entries roots : LogPair) (zeroth : first_of entries ≡ 0) (second : first_of roots ≡ 2)
      (before after : D) (result : Result T LogRefusal) (done besides kept more : Bodies)
      (one : PairLeads of_disk entries before after result done besides kept more)
      (two : PairLeads of_disk roots before after result done besides kept more) where
    pub both_lead : MatchResult result
        (λ _. PairRepresents of_disk entries after done besides × PairRepresents of_disk roots after done besides)
        (λ _. PairRepresents of_disk entries after kept more × PairRepresents of_disk roots after kept more)
    both_lead = both_now result _ _ _ _ one.now two.now

    pub all_left : Since of_disk before after (MayHaveBodies kept more)
    all_left = throughout_weaker _ _ _ _
        (λ c. PairMayHave entries kept more c × PairMayHave roots kept more c) (MayHaveBodies kept more)
        (throughout_both _ _ _ _ (PairMayHave entries kept more) (PairMayHave roots kept more)
        one.any_moment two.any_moment)
        (λ c has. all_may entries roots kept more c zeroth second has.0 has.1)

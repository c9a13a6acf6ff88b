-- Root logs without roots, while the journals are made empty.
use Rattle.std.proofs.Common.{◌≡◌, ◌≢◌, ◌⊎◌, inl, inr, ◌∙◌, refl, sym, subst, ℕ, [], Option, Some, None, IsSome, IfSome, arith}
use Rattle.disk_model.specs.declared.disk.Disk
use Rattle.disk_model.specs.Changes.{Any}
use Rattle.disk_model.specs.Logs.{Image, CrashImages, Settled}
use Rattle.disk_model.specs.Stretches.{OnlyRead, OnlyThis, Since, SparesOthers}
use Rattle.directory_meaning.specs.Directories.{HasNoRoot}
use Rattle.directory_meaning.specs.Laws.{no_bodies}
use Rattle.frame_log.specs.Frames.{HasFrames}
use Rattle.frame_log.specs.LogStates.{Holds, IsEmpty, IsUp, Represents, file_of}
use Rattle.frame_log.specs.declared.log.Log.{Log}
use Rattle.frame_log.proofs.Changes.{told_after}
use Rattle.frame_log.proofs.OtherLemmas.{other_represents}
use Rattle.frame_log.proofs.ReadLemmas.{only_read_more}
use Rattle.frame_log.proofs.Steps.{good_leaves}
use Rattle.frame_log.proofs.Stretches.{throughout_then, throughout_weaker}
use Rattle.log_pair.specs.PairStates.{current_of, other_of, PairRepresents}
use Rattle.log_pair.specs.declared.pair.LogPair.{LogPair}
use Rattle.log_pair.proofs.Two.{CountsNow}

-- a fact of the image that is told, where its hypothesis holds
pub if_told : {P X : Image → Type 0} (o : Option Image) → ((image : Image) → o ≡ Some image → P image → X image)
    → IfSome o (λ image. P image → X image)
if_told None go = tt
if_told (Some image) go = λ p. go image refl p

settled_at : (file : ℕ) (image : Image) (o : Option Image) (left : CrashImages) → o ≡ Some image
    → Settled file o left → (c : Image) → left c → c file ≡ image file
settled_at file image None left is settled c may = absurd (cc)
settled_at file image (Some a) left is settled c may =
    let same : a ≡ image = cc in
    subst (λ (d : Image). c file ≡ d file) same (settled c may)

-- of no image a root log has a frame
abbrev AreBare : CrashImages → Type 0
AreBare left = (c : Image) → left c → HasNoRoot c

bare_still : (file : ℕ) (old : CrashImages) → file ≢ 2 → file ≢ 3 → AreBare old → (c : Image) → OnlyThis old file c
    → HasNoRoot c
bare_still file old first second bare c (d, was, only) =
    let two = only.others 2 (λ is. first (sym is)) in
    let three = only.others 3 (λ is. second (sym is)) in
    let has = bare d was in
    (subst (HasFrames []) (sym two) has.0, subst (HasFrames []) (sym three) has.1)

module _ {D : Type 0} (of_disk : Disk.Ghosts D) (counts : (disk : D) → CountsNow of_disk disk) where
  spared_bare : (file : ℕ) (old new : D) → file ≢ 2 → file ≢ 3 → SparesOthers of_disk file old new
      → AreBare (of_disk.may_leave old) → Since of_disk old new HasNoRoot
  spared_bare file old new first second spares bare = throughout_weaker _ _ _ _
      (OnlyThis (of_disk.may_leave old) file) HasNoRoot spares.images
      (bare_still file (of_disk.may_leave old) first second bare)

  bare_at_last : (old new : D) → Since of_disk old new HasNoRoot → AreBare (of_disk.may_leave new)
  bare_at_last old new all c left = all.each c (counts new (of_disk.moment old) c all.later left)

  module _ (start first second third last : D) (image : Image) (is : of_disk.seen start ≡ Some image)
      (none : HasNoRoot image) (one : OnlyRead of_disk start first) (two : OnlyRead of_disk first second)
      (settled_two : Settled 2 (of_disk.seen first) (of_disk.may_leave first))
      (settled_three : Settled 3 (of_disk.seen second) (of_disk.may_leave second))
      (blank_0 : SparesOthers of_disk 0 second third) (blank_1 : SparesOthers of_disk 1 third last)
    where
      bare : AreBare (of_disk.may_leave second)
      bare c left =
          let at_two = settled_at 2 image (of_disk.seen first) (of_disk.may_leave first) (one.same ∙ is) settled_two c
          (two.fewer c left) in
          let at_three = settled_at 3 image (of_disk.seen second) (of_disk.may_leave second)
          (two.same ∙ one.same ∙ is) settled_three c left in
          (subst (HasFrames []) (sym at_two) none.0, subst (HasFrames []) (sym at_three) none.1)

      zero_blank : Since of_disk second third HasNoRoot
      zero_blank = spared_bare 0 second third (λ e. omega (arith, e)) (λ e. omega (arith, e)) blank_0 bare

      one_blank : Since of_disk third last HasNoRoot
      one_blank = spared_bare 1 third last (λ e. omega (arith, e)) (λ e. omega (arith, e)) blank_1
          (bare_at_last second third zero_blank)

      -- at each moment an image of the start, or root logs without roots
      pub bare_images : Since of_disk start last (λ c. of_disk.may_leave start c ⊎ HasNoRoot c)
      bare_images =
          let read = only_read_more of_disk start first second one two in
          throughout_then _ _ _ _ _ _ (λ c. of_disk.may_leave start c ⊎ HasNoRoot c)
          (throughout_then _ _ _ _ _ _ (λ c. of_disk.may_leave start c ⊎ HasNoRoot c)
          (throughout_weaker _ _ _ _ (of_disk.may_leave start) (λ c. of_disk.may_leave start c ⊎ HasNoRoot c)
          read.images (λ c was. inl was))
          (throughout_weaker _ _ _ _ HasNoRoot (λ c. of_disk.may_leave start c ⊎ HasNoRoot c) zero_blank
          (λ c has. inr has)))
          (throughout_weaker _ _ _ _ HasNoRoot (λ c. of_disk.may_leave start c ⊎ HasNoRoot c) one_blank
          (λ c has. inr has))

      told_last : IsSome (of_disk.seen last)
      told_last =
          let known : IsSome (of_disk.seen second) = rw (two.same, one.same, is) refl in
          told_after 1 Any (of_disk.seen third) (of_disk.seen last) blank_1.reads
          (told_after 0 Any (of_disk.seen second) (of_disk.seen third) blank_0.reads known)

      root_represents : (log : Log) → IsUp log → IsEmpty log
          → ((c : Image) → of_disk.may_leave last c → HasFrames [] (c log.file)) → Represents of_disk log last [] []
      root_represents log up empty has = record {
        told = told_last;
        at_end = empty;
        images = λ c left. good_leaves log.state [] [] (c log.file) up (has c left);
      }

      -- the empty root logs have no frame at the end
      pub roots_represent : (pair : LogPair) (log_2 log_3 : Log) → current_of pair ≡ log_2 → other_of pair ≡ log_3
          → (file_of log_2 ≡ 2) × (file_of log_3 ≡ 3) → IsUp log_2 × IsUp log_3 → IsEmpty log_2 × IsEmpty log_3
          → PairRepresents of_disk pair last no_bodies no_bodies
      roots_represent pair log_2 log_3 current other files up empty =
          let bare_last = bare_at_last third last one_blank in
          let here : Represents of_disk log_2 last [] [] = root_represents log_2 up.0 empty.0
          (λ c left. rw files.0 (bare_last c left).0) in
          let there : Represents of_disk log_3 last [] [] = root_represents log_3 up.1 empty.1
          (λ c left. rw files.1 (bare_last c left).1) in (
            subst (λ log. Represents of_disk log last [] []) (sym current) here,
            subst (λ log. Represents of_disk log last [] []) (sym other) there,
          )

      -- and so have the journals that were made
      pub entries_represent : (pair : LogPair) (log_0 log_1 : Log) → current_of pair ≡ log_0 → other_of pair ≡ log_1
          → file_of log_0 ≡ 0 → Holds of_disk log_0 third [] → Holds of_disk log_1 last []
          → PairRepresents of_disk pair last no_bodies no_bodies
      entries_represent pair log_0 log_1 current other file zero holds =
          let here : Represents of_disk log_0 last [] [] =
          other_represents of_disk 1 log_0 third last (λ e. omega (arith, e, file)) blank_1 [] [] (counts last)
          zero.represents in (
            subst (λ log. Represents of_disk log last [] []) (sym current) here,
            subst (λ log. Represents of_disk log last [] []) (sym other) holds.represents,
          )

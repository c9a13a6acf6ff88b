-- What a crash leaves since each turn, with one turn more.
use Rattle.std.proofs.Common.{◌≡◌, ◌+◌, ◌≤◌, ◌<◌, ◌⊎◌, inl, inr, ⊎_elim, ℕ, zero, suc, List, [], ◌∷◌, ◌++◌, length}
use Rattle.std.proofs.Common.{take, Some, IsSome, refl, sym, subst, subst₂, ◌∙◌, length-append, arith}
use Rattle.std.proofs.lemmas.Bool.{cases_eq}
use Rattle.std.proofs.lemmas.List.{take-append-le, take_all}
use Rattle.std.proofs.lemmas.Option.{slice_get_within}
use Rattle.std.specs.List.{slice_get}
use Rattle.disk_model.specs.Files.{Files}
use Rattle.disk_model.specs.Logs.{Image}
use Rattle.doc_engine.specs.EngineState.{files_of}
use Rattle.doc_engine.specs.Representing.{ShowsWith}
use Rattle.doc_meaning.specs.History.{Base}
use Rattle.engine_session.specs.Pending.{Acknowledges, ShowsFrom, pending_of}
use Rattle.engine_session.proofs.Places.{get_before, get_last}
use Rattle.frame_log.proofs.Stretches.{throughout_then, throughout_weaker}
use Rattle.disk_model.specs.Stretches.{Since}
use Rattle.disk_model.specs.declared.disk.Disk
use Rattle.disk_model.specs.declared.world.Store.{Store}
use Rattle.disk_model.specs.declared.yard.Yard
use Rattle.transcript.specs.Turns.{Turn, history_of}

module _ (files : Files) (base : Base) where
  -- the history of all turns, or it with the entry that was broken off
  pub shows_all : (list : List Turn) (least : ℕ) (c : Image) → least ≤ length list
      → ShowsWith files (history_of base list) (pending_of list) c → ShowsFrom files base list least c
  shows_all list least c le shows = record {
    count = length list;
    enough = le;
    some = omega arith;
    shows = subst (λ (l : List Turn). ShowsWith files (history_of base l) (pending_of l) c)
        (sym (take_all (length list) list (omega arith))) shows;
  }

  -- the same with one turn more
  pub shows_more : (list : List Turn) (turn : Turn) (least : ℕ) (c : Image) → ShowsFrom files base list least c
      → ShowsFrom files base (list ++ turn ∷ []) least c
  shows_more list turn least c from = record {
    count = from.count;
    enough = from.enough;
    some = omega (arith, from.some, length-append list (turn ∷ []));
    shows = subst (λ (l : List Turn). ShowsWith files (history_of base l) (pending_of l) c)
        (sym (take-append-le from.count list (turn ∷ []) from.some)) from.shows;
  }

  -- from fewer turns on
  pub shows_fewer : (list : List Turn) (least fewer : ℕ) (c : Image) → fewer ≤ least → ShowsFrom files base list least c
      → ShowsFrom files base list fewer c
  shows_fewer list least fewer c le from = record {
    count = from.count;
    enough = omega (arith, le, from.enough);
    some = from.some;
    shows = from.shows;
  }

some_is : {A : Type 0} {a b : A} → Some a ≡ Some b → a ≡ b
some_is same = cc

only_one : {A : Type 0} (x : A) (k : ℕ) (y : A) → slice_get (x ∷ []) k ≡ Some y → (k ≡ 0) × (y ≡ x)
only_one x zero y is = (refl, sym (some_is is))
only_one x (suc k) y is = absurd (cc)

-- since its own moment a crash might have left exactly what it may leave
abbrev pub LeavesNow : {D : Type 0} → Disk.Ghosts D → Type 0
LeavesNow {D} of_disk = (disk : D) (c : Image)
    → (of_disk.left_since disk (of_disk.moment disk) c → of_disk.may_leave disk c)
    × (of_disk.may_leave disk c → of_disk.left_since disk (of_disk.moment disk) c)

pub leaves_now : {D : Type 0} (of_disk : Disk.Ghosts D)
    → ((disk : D) (c : Image) → of_disk.left_since disk (of_disk.moment disk) c → of_disk.may_leave disk c)
    → ((disk : D) (t : ℕ) (c : Image) → t ≤ of_disk.moment disk → of_disk.may_leave disk c
    → of_disk.left_since disk t c)
    → LeavesNow of_disk
leaves_now of_disk only counts disk c = (only disk c, counts disk (of_disk.moment disk) c (omega arith))

module _ {D Y F B : Type 0} (of_disk : Disk.Ghosts D) (of_yard : Yard.Ghosts Y F B) (at_now : LeavesNow of_disk)
    (files : Files) (base : Base) where
  -- with these files each image of a state shows the history of these turns, or it with the entry that was broken off
  abbrev pub AreShown : List Turn → Store D Y → Type 0
  AreShown list state =
      (c : Image) → of_disk.may_leave state.disk c → ShowsWith files (history_of base list) (pending_of list) c

  -- a yard that holds these files holds no others
  same_files : (yard : Y) (others : Files) → files_of of_yard yard ≡ Some files → files_of of_yard yard ≡ Some others
      → files ≡ others
  same_files yard others holds held = some_is (sym holds ∙ held)

  -- before the first turn
  module _ (store : Store D Y) (told : IsSome (of_disk.seen store.disk))
      (holds : files_of of_yard store.yard ≡ Some files) (shown : AreShown [] store) where
    -- with the files of the only state
    shown_first : (k : ℕ) (state : Store D Y) (others : Files) (c : Image) → slice_get (store ∷ []) k ≡ Some state
        → files_of of_yard state.yard ≡ Some others → of_disk.may_leave state.disk c
        → ShowsWith others (history_of base (take k [])) (pending_of (take k [])) c
    shown_first k state others c is held may =
        let (zeroth, same) = only_one store k state is in
        subst₂ (λ (f : Files) (n : ℕ). ShowsWith f (history_of base (take n [])) (pending_of (take n [])) c)
        (same_files store.yard others holds
        (subst (λ (s : Store D Y). files_of of_yard s.yard ≡ Some others) same held))
        (sym zeroth)
        (shown c (subst (λ (s : Store D Y). of_disk.may_leave s.disk c) same may))

    left_first : (k : ℕ) (state : Store D Y) (others : Files) (c : Image) → slice_get (store ∷ []) k ≡ Some state
        → files_of of_yard store.yard ≡ Some others → of_disk.left_since store.disk (of_disk.moment state.disk) c
        → ShowsFrom others base [] k c
    left_first k state others c is held left =
        let (zeroth, same) = only_one store k state is in
        subst (λ (f : Files). ShowsFrom f base [] k c) (same_files store.yard others holds held)
        (shows_all files base [] k c (omega (arith, zeroth))
        (shown c ((at_now store.disk c).0
        (subst (λ (s : Store D Y). of_disk.left_since store.disk (of_disk.moment s.disk) c) same left))))

    pub acknowledges_none : Acknowledges of_disk of_yard base [] store store
    acknowledges_none = record {
      states = store ∷ [];
      each = refl;
      first = refl;
      last = refl;
      told = λ k state is. subst (λ (s : Store D Y). IsSome (of_disk.seen s.disk))
          (sym (only_one store k state is).1) told;
      later = λ k state next is then.
          let (zeroth, same) = only_one store (k + 1) next then in absurd (omega (arith, zeroth));
      past = λ k state is. subst (λ (s : Store D Y). of_disk.moment s.disk ≤ of_disk.moment store.disk)
          (sym (only_one store k state is).1) (omega arith);
      stayed = λ k state c is may.
          let (zeroth, same) = only_one store k state is in
          subst (λ (s : Store D Y). of_disk.left_since store.disk (of_disk.moment s.disk) c) (sym same)
          ((at_now store.disk c).1 (subst (λ (s : Store D Y). of_disk.may_leave s.disk c) same may));
      shows = shown_first;
      left = left_first;
    }

  -- at each moment up to the end of one turn more
  pub since_more : (list : List Turn) (turn : Turn) (old middle new : D)
      → Since of_disk old middle (ShowsFrom files base list 0)
      → Since of_disk middle new (ShowsFrom files base (list ++ turn ∷ []) (length list))
      → Since of_disk old new (ShowsFrom files base (list ++ turn ∷ []) 0)
  since_more list turn old middle new before since =
      throughout_then _ _ _ _ _ _ _
      (throughout_weaker _ _ _ _ _ _ before (λ c shows. shows_more files base list turn 0 c shows))
      (throughout_weaker _ _ _ _ _ _ since
      (λ c shows. shows_fewer files base (list ++ turn ∷ []) (length list) 0 c (omega arith) shows))

  module _ (list : List Turn) (turn : Turn) (old middle new : Store D Y)
      (before : Acknowledges of_disk of_yard base list old middle)
      (since : Since of_disk middle.disk new.disk (ShowsFrom files base (list ++ turn ∷ []) (length list)))
      (told : IsSome (of_disk.seen new.disk)) (yard : new.yard ≡ middle.yard)
      (holds : files_of of_yard new.yard ≡ Some files) (shown : AreShown (list ++ turn ∷ []) new) where
    states : List (Store D Y)
    states = before.states ++ new ∷ []

    last_at : slice_get states (length before.states) ≡ Some new
    unfolding states
    last_at = get_last before.states new

    -- a state before, or the one after the turn
    which : (k : ℕ) (state : Store D Y) → slice_get states k ≡ Some state
        → ((k < length before.states) × (slice_get before.states k ≡ Some state))
        ⊎ ((k ≡ length before.states) × (state ≡ new))
    unfolding states
    which k state is =
        let within = slice_get_within (before.states ++ new ∷ []) k state is in
        let total = length-append before.states (new ∷ []) in
        ⊎_elim
        (λ same. inr (same, sym (some_is (sym last_at ∙ subst (λ n. slice_get states n ≡ Some state) same is))))
        (λ apart.
        let lt : k < length before.states = omega (arith, within, total, apart) in
        inl (lt, sym (get_before before.states new k lt) ∙ is))
        (cases_eq k (length before.states))

    -- what the images of a state show with the files of its yard
    shown_at : (k : ℕ) (state : Store D Y) (others : Files) (c : Image) → slice_get states k ≡ Some state
        → files_of of_yard state.yard ≡ Some others → of_disk.may_leave state.disk c
        → ShowsWith others (history_of base (take k (list ++ turn ∷ []))) (pending_of (take k (list ++ turn ∷ []))) c
    shown_at k state others c is held may = ⊎_elim
        (λ early. subst (λ (l : List Turn). ShowsWith others (history_of base l) (pending_of l) c)
        (sym (take-append-le k list (turn ∷ []) (omega (arith, early.0, before.each))))
        (before.shows k state others c early.1 held may))
        (λ late. subst₂ (λ (f : Files) (l : List Turn). ShowsWith f (history_of base l) (pending_of l) c)
        (same_files new.yard others holds
        (subst (λ (s : Store D Y). files_of of_yard s.yard ≡ Some others) late.1 held))
        (sym (take_all k (list ++ turn ∷ [])
        (omega (arith, late.0, before.each, length-append list (turn ∷ [])))))
        (shown c (subst (λ (s : Store D Y). of_disk.may_leave s.disk c) late.1 may)))
        (which k state is)

    -- what a crash leaves since a state shows with the files that are kept
    left_with : (k : ℕ) (state : Store D Y) (c : Image) → slice_get states k ≡ Some state
        → of_disk.left_since new.disk (of_disk.moment state.disk) c → ShowsFrom files base (list ++ turn ∷ []) k c
    left_with k state c is left = ⊎_elim
        (λ early. ⊎_elim
        (λ then. shows_more files base list turn k c
        (before.left k state files c early.1 (subst (λ (y : Y). files_of of_yard y ≡ Some files) yard holds) then))
        (λ shows. shows_fewer files base (list ++ turn ∷ []) (length list) k c
        (omega (arith, early.0, before.each)) shows)
        (since.earlier (of_disk.moment state.disk) c (before.past k state early.1) left))
        (λ late. shows_all files base (list ++ turn ∷ []) k c
        (omega (arith, late.0, before.each, length-append list (turn ∷ [])))
        (shown c ((at_now new.disk c).0
        (subst (λ (s : Store D Y). of_disk.left_since new.disk (of_disk.moment s.disk) c) late.1 left))))
        (which k state is)

    left_at : (k : ℕ) (state : Store D Y) (others : Files) (c : Image) → slice_get states k ≡ Some state
        → files_of of_yard new.yard ≡ Some others → of_disk.left_since new.disk (of_disk.moment state.disk) c
        → ShowsFrom others base (list ++ turn ∷ []) k c
    left_at k state others c is held left =
        subst (λ (f : Files). ShowsFrom f base (list ++ turn ∷ []) k c) (same_files new.yard others holds held)
        (left_with k state c is left)

    -- a state is told
    told_at : (k : ℕ) (state : Store D Y) → slice_get states k ≡ Some state → IsSome (of_disk.seen state.disk)
    told_at k state is = ⊎_elim
        (λ early. before.told k state early.1)
        (λ late. subst (λ (s : Store D Y). IsSome (of_disk.seen s.disk)) (sym late.1) told)
        (which k state is)

    -- its moment isn't past that of the last
    past_at : (k : ℕ) (state : Store D Y) → slice_get states k ≡ Some state
        → of_disk.moment state.disk ≤ of_disk.moment new.disk
    past_at k state is = ⊎_elim
        (λ early. omega (arith, before.past k state early.1, since.later))
        (λ late. subst (λ (s : Store D Y). of_disk.moment s.disk ≤ of_disk.moment new.disk) (sym late.1) (omega arith))
        (which k state is)

    -- nor past that of the next
    later_at : (k : ℕ) (state next : Store D Y) → slice_get states k ≡ Some state → slice_get states (k + 1) ≡ Some next
        → of_disk.moment state.disk ≤ of_disk.moment next.disk
    later_at k state next is then = ⊎_elim
        (λ early. ⊎_elim
        (λ sooner. before.later k state next sooner.1 early.1)
        (λ last. absurd (omega (arith, early.0, last.0)))
        (which k state is))
        (λ late. subst (λ (s : Store D Y). of_disk.moment state.disk ≤ of_disk.moment s.disk) (sym late.1)
        (past_at k state is))
        (which (k + 1) next then)

    -- what a crash might have left at a state counts among what might have been left since
    stayed_at : (k : ℕ) (state : Store D Y) (c : Image) → slice_get states k ≡ Some state
        → of_disk.may_leave state.disk c → of_disk.left_since new.disk (of_disk.moment state.disk) c
    stayed_at k state c is may = ⊎_elim
        (λ early. since.keeps (of_disk.moment state.disk) c (before.past k state early.1)
        (before.stayed k state c early.1 may))
        (λ late. subst (λ (s : Store D Y). of_disk.left_since new.disk (of_disk.moment s.disk) c) (sym late.1)
        ((at_now new.disk c).1 (subst (λ (s : Store D Y). of_disk.may_leave s.disk c) late.1 may)))
        (which k state is)

    pub acknowledges_more : Acknowledges of_disk of_yard base (list ++ turn ∷ []) old new
    unfolding states
    acknowledges_more = record {
      states = states;
      each = omega (arith, before.each, length-append before.states (new ∷ []), length-append list (turn ∷ []));
      first = get_before before.states new 0 (omega (arith, before.each)) ∙ before.first;
      last = subst (λ n. slice_get states n ≡ Some new)
          (omega (arith, before.each, length-append list (turn ∷ []))) last_at;
      told = told_at;
      later = later_at;
      past = past_at;
      stayed = stayed_at;
      shows = shown_at;
      left = left_at;
    }

use Rattle.std.proofs.Common.{◌≡◌, inl, inr, ◌∙◌, ℕ, List, [], ◌∷◌, length, take, drop, Option, Some, None, IsSome, IfSome, sym, ap, subst, arith}
use Rattle.disk_model.specs.Changes.{Any, OnlyAt, Becomes}
use Rattle.disk_model.specs.Logs.{Image, MayCut, CrashImages, Settled, Writes}
use Rattle.frame_log.specs.Frames.{HasFrames}
use Rattle.frame_log.specs.LogStates.{Leaves}
use Rattle.frame_log.specs.declared.frame.TheConstants.{CLOSED}
use Rattle.frame_log.specs.declared.state.State.{State}
use Rattle.frame_log.proofs.Changes.{spares_more, told_after}
use Rattle.frame_log.proofs.log.Log.blank.Goals as goal

-- a closed gate is at the start
record IsClosed (bytes : List ℕ) : Type 0 where
  pub behind : List ℕ
  pub is : bytes ≡ CLOSED ∷ behind

closed_written : (file : ℕ) (old mid : Option Image) (left : CrashImages) → IsSome old → Becomes
    (OnlyAt file (Writes 0 (CLOSED ∷ []))) old mid
    → Settled file mid left → (d : Image) → left d → IsClosed (d file)
closed_written file None mid left told is settled d may = absurd (cc)
closed_written file (Some a) None left told is settled d may = absurd is
closed_written file (Some a) (Some b) left told is settled d may = record
    { behind = drop 1 (a file); is = settled d may ∙ is.here }

closed_cut : (a b : List ℕ) → IsClosed a → MayCut 1 a b → IsClosed b
closed_cut a b closed (inl cut) = record
    { behind = take 0 closed.behind; is = cut ∙ ap (λ (l : List ℕ). take 1 l) closed.is }
closed_cut a b closed (inr same) = record { behind = closed.behind; is = same ∙ closed.is }

no_frames : (bytes : List ℕ) → IsClosed bytes → length bytes ≡ 1 → HasFrames [] bytes
no_frames bytes closed one = record {
  gate = CLOSED;
  behind = closed.behind;
  whole = closed.is;
  closed = λ is. omega (arith, is);
  short = omega (arith, one);
}

if_told : {A : Type 0} (P : Type 0) (o : Option A) → IsSome o → IfSome o (λ _. P) → P
if_told P None told is = absurd (cc)
if_told P (Some x) told is = is

pub returns-in_err-truncate_synced-clause-others : goal.returns-in_err-truncate_synced-clause-others
returns-in_err-truncate_synced-clause-others g c =
    let laws = g.met.D.Disk g.world.𝓛 g.world.𝓜 g.world.𝓡 ((λ s x. x), (λ x. x), (λ x. x), λ x. x) in
    spares_more g.D.Disk c.args.file _ _ _
    (laws.counts_now c.write_synced.new.disk) c.write_synced.ensures.others c.truncate_synced.ensures.others

pub returns-clause-others : goal.returns-clause-others
returns-clause-others g c =
    let laws = g.met.D.Disk g.world.𝓛 g.world.𝓜 g.world.𝓡 ((λ s x. x), (λ x. x), (λ x. x), λ x. x) in
    spares_more g.D.Disk c.args.file _ _ _
    (laws.counts_now c.write_synced.new.disk) c.write_synced.ensures.others c.truncate_synced.ensures.others

pub returns-clause-empty : goal.returns-clause-empty
returns-clause-empty g c told =
    let laws = g.met.D.Disk g.world.𝓛 g.world.𝓜 g.world.𝓡 ((λ s x. x), (λ x. x), (λ x. x), λ x. x) in
    let told_mid = told_after c.args.file Any _ _ c.write_synced.ensures.others.reads told in
    let told_new = told_after c.args.file Any _ _ c.truncate_synced.ensures.others.reads told_mid in
    let closed = closed_written c.args.file _ _ _ told c.in_ok-write_synced.ensures.written
    c.in_ok-write_synced.ensures.settled in
    let cut = c.truncate_synced.ensures.cut told_mid in
    let one = if_told _ _ told_new c.in_ok-truncate_synced.ensures.trimmed in
    record {
      good = c.ending.ensures.up;
      represents = record {
        told = told_new;
        at_end = c.ending.ensures.place.1;
        images = λ d left.
            let (e, possible, is) = cut.each d (laws.counts_now c.truncate_synced.new.disk _ d cut.later left) in
            let has = no_frames (d c.args.file) (closed_cut (e c.args.file) (d c.args.file) (closed e possible) is)
            (one d left) in
            subst (λ (s : State). Leaves s [] [] (d c.ending.result.file)) (sym c.ending.ensures.up)
            (subst (λ n. HasFrames [] (d n)) (sym c.ending.ensures.place.0) has);
      };
    }

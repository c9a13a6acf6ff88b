-- A stretch of time, call by call.
use Rattle.std.proofs.Common.{inl, inr, ⊎_elim, ℕ, arith}
use Rattle.disk_model.specs.Logs.{Image, CrashImages}
use Rattle.disk_model.specs.Moments.{Elapses, Throughout}

-- a first call
pub throughout_first : (before now : ℕ) (past since : ℕ → CrashImages) (old new : CrashImages) (P : Image → Type 0)
    → ((c : Image) → past before c → old c) → Elapses before now past since new
    → ((c : Image) → old c → P c) → ((c : Image) → new c → P c) → Throughout before now past since P
throughout_first before now past since old new P only goes was is = record {
  later = goes.later;
  each = λ c left. ⊎_elim (λ then. was c (only c then)) (λ may. is c may)
      (goes.nothing_else before c (omega arith) left);
  earlier = λ t c le left. ⊎_elim (λ then. inl then) (λ may. inr (is c may)) (goes.nothing_else t c le left);
  keeps = goes.keeps;
}

-- one call more
pub throughout_more : (before middle now : ℕ) (past between since : ℕ → CrashImages) (new : CrashImages)
    (P : Image → Type 0)
    → Throughout before middle past between P → Elapses middle now between since new
    → ((c : Image) → new c → P c) → Throughout before now past since P
throughout_more before middle now past between since new P so_far goes is = record {
  later = omega (arith, so_far.later, goes.later);
  each = λ c left. ⊎_elim (λ then. so_far.each c then) (λ may. is c may) (goes.nothing_else before c so_far.later left);
  earlier = λ t c le left. ⊎_elim (λ then. so_far.earlier t c le then) (λ may. inr (is c may))
      (goes.nothing_else t c (omega (arith, le, so_far.later)) left);
  keeps = λ t c le was. goes.keeps t c (omega (arith, le, so_far.later)) (so_far.keeps t c le was);
}

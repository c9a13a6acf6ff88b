-- Stretches of time, one after the other.
use Rattle.std.proofs.Common.{inl, inr, ⊎_elim, ℕ, arith}
use Rattle.disk_model.specs.Logs.{Image, CrashImages}
use Rattle.disk_model.specs.Moments.{Throughout}

-- no time passed
pub throughout_still : (now : ℕ) (since : ℕ → CrashImages) (may_leave : CrashImages) (P : Image → Type 0)
    → ((c : Image) → since now c → may_leave c) → ((c : Image) → may_leave c → P c) → Throughout now now since since P
throughout_still now since may_leave P only is = record {
  later = omega arith;
  each = λ c left. is c (only c left);
  earlier = λ t c le left. inl left;
  keeps = λ t c le was. was;
}

pub throughout_weaker : (before now : ℕ) (past since : ℕ → CrashImages) (P Q : Image → Type 0)
    → Throughout before now past since P → ((c : Image) → P c → Q c) → Throughout before now past since Q
throughout_weaker before now past since P Q all is = record {
  later = all.later;
  each = λ c left. is c (all.each c left);
  earlier = λ t c le left. ⊎_elim (λ then. inl then) (λ p. inr (is c p)) (all.earlier t c le left);
  keeps = all.keeps;
}

pub throughout_both : (before now : ℕ) (past since : ℕ → CrashImages) (P Q : Image → Type 0)
    → Throughout before now past since P → Throughout before now past since Q → Throughout before now past since
    (λ c. P c × Q c)
throughout_both before now past since P Q first second = record {
  later = first.later;
  each = λ c left. (first.each c left, second.each c left);
  earlier = λ t c le left.
      ⊎_elim (λ then. inl then) (λ p. ⊎_elim (λ then. inl then) (λ q. inr (p, q)) (second.earlier t c le left))
      (first.earlier t c le left);
  keeps = first.keeps;
}

pub throughout_then : (before middle now : ℕ) (past between since : ℕ → CrashImages) (P : Image → Type 0)
    → Throughout before middle past between P → Throughout middle now between since P → Throughout before now past
    since P
throughout_then before middle now past between since P first second = record {
  later = omega (arith, first.later, second.later);
  each = λ c left. ⊎_elim (λ then. first.each c then) (λ p. p) (second.earlier before c first.later left);
  earlier = λ t c le left. ⊎_elim (λ then. first.earlier t c le then) (λ p. inr p)
      (second.earlier t c (omega (arith, le, first.later)) left);
  keeps = λ t c le was. second.keeps t c (omega (arith, le, first.later)) (first.keeps t c le was);
}

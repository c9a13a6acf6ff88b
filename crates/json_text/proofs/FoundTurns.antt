-- What a reading in turns reads.
use Rattle.std.proofs.Common.{◌≡◌, ℕ, zero, suc, Bool, true, false, cond, List, ◌++◌, Ok, subst}
use Rattle.json_text.specs.Reading.{Read, with_front, turn, repeated}
use Rattle.json_text.proofs.Fronts.{bound, ok_pair}

pub data Turns {Y : Type 0} (step : List ℕ → Read (List Y × Bool)) : List ℕ → List Y → List ℕ → Type 0 where
  last : (bytes : List ℕ) (ys : List Y) (rest : List ℕ) → step bytes ≡ Ok ((ys, false), rest) → Turns step bytes ys rest
  more : (bytes : List ℕ) (ys : List Y) (rest : List ℕ) (zs : List Y) (end : List ℕ) →
      step bytes ≡ Ok ((ys, true), rest) → Turns step rest zs end → Turns step bytes (ys ++ zs) end

turned : {Y : Type 0} (step : List ℕ → Read (List Y × Bool)) (n : ℕ) (bytes : List ℕ) (ys : List Y) (again : Bool)
    (rest : List ℕ) (zs : List Y) (end : List ℕ) →
    step bytes ≡ Ok ((ys, again), rest) → cond again (with_front ys (repeated step n rest)) (Ok (ys, rest)) ≡ Ok
    (zs, end) →
    ((zs : List Y) (end : List ℕ) → repeated step n rest ≡ Ok (zs, end) → Turns step rest zs end) →
    Turns step bytes zs end
turned {Y = Y} step n bytes ys true rest zs end e h ih =
    let b = bound (repeated step n rest) (λ x. Ok (ys ++ x.0, x.1)) (zs, end) h in
    let (made, left) = ok_pair (ys ++ b.value.0) zs b.value.1 end b.second in
    subst (λ (us : List Y). Turns step bytes us end) made
    (subst (λ (r : List ℕ). Turns step bytes (ys ++ b.value.0) r) left
    (more bytes ys rest b.value.0 b.value.1 e (ih b.value.0 b.value.1 b.first)))
turned {Y = Y} step n bytes ys false rest zs end e h ih =
    let (made, left) = ok_pair ys zs rest end h in
    subst (λ (us : List Y). Turns step bytes us end) made
    (subst (λ (r : List ℕ). Turns step bytes ys r) left (last bytes ys rest e))

pub turns_ok : {Y : Type 0} (step : List ℕ → Read (List Y × Bool)) (n : ℕ) (bytes : List ℕ) (zs : List Y)
    (end : List ℕ) →
    repeated step n bytes ≡ Ok (zs, end) → Turns step bytes zs end
unfolding repeated
turns_ok {Y = Y} step zero bytes zs end h = absurd cc
turns_ok {Y = Y} step (suc n) bytes zs end h =
    let b = bound (step bytes) (λ x. turn (repeated step n) x) (zs, end) h in
    turned step n bytes b.value.0.0 b.value.0.1 b.value.1 zs end b.first b.second
    (λ us r e. turns_ok step n b.value.1 us r e)

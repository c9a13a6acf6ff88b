-- What is read in turns, as a loop does.
use Rattle.std.proofs.Common.{◌≡◌, ℕ, suc, ◌-◌, ◌+◌, ◌≤◌, ◌<◌, Bool, true, false, List, [], ◌++◌, Result, Ok, Err, refl, sym, ap, ◌∙◌, append_assoc, arith}
use Rattle.json_text.specs.declared.fault.Fault.{Fault}
use Rattle.json_text.specs.declared.fault.Stop.{Stop}
use Rattle.json_text.specs.declared.fault.Stop.TheVariants as stop
use Rattle.json_text.specs.Reading.{◌>>=◌, Fails, Read, turn, repeated, with_front, unexpected}

regroup : {Y : Type 0} (front ys : List Y) (read : Read (List Y)) →
    with_front front (with_front ys read) ≡ with_front (front ++ ys) read
regroup {Y = Y} front ys (Ok x) = ap (λ (zs : List Y). Ok (zs, x.1)) (sym (append_assoc front ys x.0))
regroup {Y = Y} front ys (Err f) = refl

-- with turns left another one is made
unrolled : {Y : Type 0} (step : List ℕ → Read (List Y × Bool)) (n : ℕ) (rest : List ℕ) →
    repeated step (suc n) rest ≡ (step rest >>= λ x. turn (repeated step n) x)
unfolding repeated
unrolled step n rest = refl

one_less : (count i : ℕ) → i < count → count - i ≡ suc (count - (i + 1))
one_less count i lt = omega arith

-- another one follows
pub goes_on : {Y : Type 0} (step : List ℕ → Read (List Y × Bool)) (front ys : List Y) (count i : ℕ)
    (rest behind : List ℕ) (whole : Read (List Y))
    → i < count → step rest ≡ Ok ((ys, true), behind) → with_front front (repeated step (count - i) rest) ≡ whole
    → with_front (front ++ ys) (repeated step (count - (i + 1)) behind) ≡ whole
goes_on {Y = Y} step front ys count i rest behind whole lt e h =
    sym (regroup front ys (repeated step (count - (i + 1)) behind))
    ∙ ap (λ (r : Read (List Y)). with_front front r)
    (ap (λ (x : Read (List Y × Bool)). x >>= λ y. turn (repeated step (count - (i + 1))) y) (sym e))
    ∙ ap (λ (r : Read (List Y)). with_front front r) (sym (unrolled step (count - (i + 1)) rest))
    ∙ ap (λ (n : ℕ). with_front front (repeated step n rest)) (sym (one_less count i lt))
    ∙ h

-- none follows
pub ends : {Y : Type 0} (step : List ℕ → Read (List Y × Bool)) (front ys : List Y) (count i : ℕ) (rest behind : List ℕ)
    (whole : Read (List Y))
    → i < count → step rest ≡ Ok ((ys, false), behind) → with_front front (repeated step (count - i) rest) ≡ whole
    → whole ≡ Ok (front ++ ys, behind)
ends {Y = Y} step front ys count i rest behind whole lt e h =
    sym h
    ∙ ap (λ (n : ℕ). with_front front (repeated step n rest)) (one_less count i lt)
    ∙ ap (λ (r : Read (List Y)). with_front front r) (unrolled step (count - (i + 1)) rest)
    ∙ ap (λ (x : Read (List Y × Bool)). with_front front (x >>= λ y. turn (repeated step (count - (i + 1))) y)) e

-- a fault is met
pub fails : {Y : Type 0} (step : List ℕ → Read (List Y × Bool)) (front : List Y) (count i : ℕ) (rest : List ℕ)
    (whole : Read (List Y)) (f : Fault)
    → i < count → step rest ≡ Err f → with_front front (repeated step (count - i) rest) ≡ whole
    → whole ≡ Err f
fails {Y = Y} step front count i rest whole f lt e h =
    sym h
    ∙ ap (λ (n : ℕ). with_front front (repeated step n rest)) (one_less count i lt)
    ∙ ap (λ (r : Read (List Y)). with_front front r) (unrolled step (count - (i + 1)) rest)
    ∙ ap (λ (x : Read (List Y × Bool)). with_front front (x >>= λ y. turn (repeated step (count - (i + 1))) y)) e

spent : {Y : Type 0} (step : List ℕ → Read (List Y × Bool)) (rest : List ℕ) →
    repeated step 0 rest ≡ Err (unexpected rest)
unfolding repeated
spent step rest = refl

none_left : (count i : ℕ) → count ≤ i → count - i ≡ 0
none_left count i le = omega arith

-- no turn is left
pub runs_out : {Y : Type 0} (step : List ℕ → Read (List Y × Bool)) (front : List Y) (count i : ℕ) (rest : List ℕ)
    (whole : Read (List Y))
    → count ≤ i → with_front front (repeated step (count - i) rest) ≡ whole
    → whole ≡ Err (unexpected rest)
runs_out {Y = Y} step front count i rest whole le h =
    sym h ∙ ap (λ (n : ℕ). with_front front (repeated step n rest)) (none_left count i le)
    ∙ ap (λ (r : Read (List Y)). with_front front r) (spent step rest)

pub starts : {Y : Type 0} (read : Read (List Y)) → with_front [] read ≡ read
starts (Ok x) = refl
starts (Err f) = refl

-- where a part fails the whole does, if each fault of the part is its own
pub fails_as : {X Y : Type 0} (e : Stop) (part : Result X Fault) (whole : Result Y Fault) → Fails e part →
    ((f : Fault) → part ≡ Err f → whole ≡ Err f) → Fails e whole
fails_as stop.Memory part whole h as_part = tt
fails_as (stop.Fault f) part whole h as_part = as_part f h

-- Entries whose numbers rise by one, those past a checkpoint, and two journals one after the other.
use Rattle.std.proofs.Common.{◌≡◌, ℕ, ◌+◌, ◌<◌, ltb, leb, List, [], ◌∷◌, ◌++◌, length, refl, sym, ap, ◌∙◌, arith}
use Rattle.std.proofs.lemmas.Bool.{cond-false, cond-true, le-leb, lt-leb, lt-ltb}
use Rattle.std.proofs.lemmas.List.{append-nil}
use Rattle.std.proofs.lemmas.List.Elements.{filter-append}
use Rattle.directory_meaning.specs.Bodies.{Numbered, RiseFrom, by_first_number, past}

pub rise_head : (n : ℕ) (e : Numbered) (es : List Numbered) → RiseFrom n (e ∷ es) → e.0 ≡ n
rise_head n e es is = cc

pub rise_tail : (n : ℕ) (e : Numbered) (es : List Numbered) → RiseFrom n (e ∷ es) → RiseFrom (n + 1) es
rise_tail n e es is = cc

rise_cons : (n : ℕ) (e : Numbered) (es : List Numbered) → e.0 ≡ n → RiseFrom (n + 1) es → RiseFrom n (e ∷ es)
rise_cons n e es first is = cc

pub rise_one : (n : ℕ) (e : Numbered) → e.0 ≡ n → RiseFrom n (e ∷ [])
rise_one n e first = rise_cons n e [] first refl

-- one more entry
pub rise_push : (n : ℕ) (es : List Numbered) (e : Numbered) → RiseFrom n es → e.0 ≡ n + length es →
    RiseFrom n (es ++ e ∷ [])
rise_push n [] e rises at = rise_one n e (omega arith)
rise_push n (x ∷ es) e rises at =
    let first = rise_head n x es rises in
    let more = rise_push (n + 1) es e (rise_tail n x es rises) (omega arith) in
    rise_cons n x (es ++ e ∷ []) first more

-- the number of an entry behind others
pub rise_at : (n : ℕ) (es : List Numbered) (e : Numbered) (more : List Numbered) → RiseFrom n (es ++ e ∷ more) →
    e.0 ≡ n + length es
rise_at n [] e more rises = let first = rise_head n e more rises in omega arith
rise_at n (x ∷ es) e more rises =
    let rest = rise_at (n + 1) es e more (rise_tail n x (es ++ e ∷ more) rises) in omega arith

-- where the second journal's entries come first, they go first
pub second_first : (n : ℕ) (own other : List Numbered) → RiseFrom n (other ++ own) →
    by_first_number own other ≡ other ++ own
second_first n [] [] rises = refl
second_first n [] (f ∷ other) rises = sym (append-nil (f ∷ other))
second_first n (e ∷ own) [] rises = append-nil (e ∷ own)
second_first n (e ∷ own) (f ∷ other) rises =
    let first = rise_head n f (other ++ e ∷ own) rises in
    let later = rise_at n (f ∷ other) e own rises in
    cond-false (leb e.0 f.0) _ _ (lt-leb e.0 f.0 (omega arith))

-- and where the first journal's do
pub first_first : (n : ℕ) (own other : List Numbered) → RiseFrom n (other ++ own) →
    by_first_number other own ≡ other ++ own
first_first n [] [] rises = refl
first_first n (e ∷ own) [] rises = refl
first_first n [] (f ∷ other) rises = refl
first_first n (e ∷ own) (f ∷ other) rises =
    let first = rise_head n f (other ++ e ∷ own) rises in
    let later = rise_at n (f ∷ other) e own rises in
    cond-true (leb f.0 e.0) _ _ (le-leb f.0 e.0 (omega arith))

-- one more entry past the checkpoint
pub past_push : (checkpoint : ℕ) (es : List Numbered) (e : Numbered) → checkpoint < e.0 →
    past checkpoint (es ++ e ∷ []) ≡ past checkpoint es ++ e ∷ []
past_push checkpoint es e late =
    filter-append (λ (e : Numbered). ltb checkpoint e.0) es (e ∷ [])
    ∙ ap (λ l. past checkpoint es ++ l) (cond-true (ltb checkpoint e.0) (e ∷ []) [] (lt-ltb checkpoint e.0 late))

-- Numbers that rise by one, and the entries past a checkpoint.
use Rattle.std.proofs.Common.{◌≡◌, ◌≢◌, ◌∙◌, ◌≤◌, ◌<◌, ◌+◌, ℕ, Bool, cond, List, [], ◌∷◌, ◌++◌, ◌-◌, Some, refl, sym, ap, subst, ⊎_elim, length, get_or, take, drop, slice_get, nat_lt, arith}
use Rattle.std.proofs.lemmas.Bool.{cases_lt, cond-false, cond-true, le-ltb, lt-ltb}
use Rattle.std.proofs.lemmas.List.{append-nil, get_or_push, length_push, take-append-drop}
use Rattle.std.proofs.lemmas.List.Elements.{filter-append, filter_more}
use Rattle.std.proofs.lemmas.Option.{slice_get-get_or}
use Rattle.directory_meaning.specs.Bodies.{Numbered, RiseFrom, past}

pub past_late : (c : ℕ) (e : Numbered) (es : List Numbered) → c < e.0 → past c (e ∷ es) ≡ e ∷ past c es
past_late c e es late = cond-true (nat_lt c e.0) _ _ (lt-ltb c e.0 late)

pub past_early : (c : ℕ) (e : Numbered) (es : List Numbered) → e.0 ≤ c → past c (e ∷ es) ≡ past c es
past_early c e es early = cond-false (nat_lt c e.0) _ _ (le-ltb c e.0 early)

-- the entry behind the first ones counts where it is past the checkpoint
pub past_more : (c : ℕ) (es : List Numbered) (k : ℕ) (e : Numbered) → k < length es → e ≡ get_or es k e → c < e.0
    → past c (take (k + 1) es) ≡ past c (take k es) ++ e ∷ []
past_more c es k e within here late =
    filter_more (λ (d : Numbered). nat_lt c d.0) es k e within
    ∙ ap (λ (d : Numbered). past c (take k es) ++ cond (nat_lt c d.0) (d ∷ []) []) (sym here)
    ∙ ap (λ (b : Bool). past c (take k es) ++ cond b (e ∷ []) []) (lt-ltb c e.0 late)

-- and not elsewhere
pub past_same : (c : ℕ) (es : List Numbered) (k : ℕ) (e : Numbered) → k < length es → e ≡ get_or es k e → e.0 ≤ c
    → past c (take (k + 1) es) ≡ past c (take k es)
past_same c es k e within here early =
    filter_more (λ (d : Numbered). nat_lt c d.0) es k e within
    ∙ ap (λ (d : Numbered). past c (take k es) ++ cond (nat_lt c d.0) (d ∷ []) []) (sym here)
    ∙ ap (λ (b : Bool). past c (take k es) ++ cond b (e ∷ []) []) (le-ltb c e.0 early)
    ∙ append-nil (past c (take k es))

pub rises_head : (n : ℕ) (e : Numbered) (es : List Numbered) → RiseFrom n (e ∷ es) → e.0 ≡ n
rises_head n e es r = cc

pub rises_tail : (n : ℕ) (e : Numbered) (es : List Numbered) → RiseFrom n (e ∷ es) → RiseFrom (n + 1) es
rises_tail n e es r = cc

pub rises_cons : (n : ℕ) (e : Numbered) (es : List Numbered) → e.0 ≡ n → RiseFrom (n + 1) es → RiseFrom n (e ∷ es)
rises_cons n e es h r = cc

pub rises-append : (n m : ℕ) (xs ys : List Numbered) → RiseFrom n xs → m ≡ n + length xs → RiseFrom m ys
    → RiseFrom n (xs ++ ys)
rises-append n m [] ys r e s = let same : m ≡ n = omega arith in rw (← same) s
rises-append n m (x ∷ xs) ys r e s =
    rises_cons n x (xs ++ ys) (rises_head n x xs r)
    (rises-append (n + 1) m xs ys (rises_tail n x xs r) (omega (arith, e)) s)

-- those behind others
pub rises_behind : (n m : ℕ) (xs ys : List Numbered) → RiseFrom n (xs ++ ys) → m ≡ n + length xs → RiseFrom m ys
rises_behind n m [] ys r e = let same : m ≡ n = omega arith in rw same r
rises_behind n m (x ∷ xs) ys r e = rises_behind (n + 1) m xs ys (rises_tail n x (xs ++ ys) r) (omega (arith, e))

-- all are past a checkpoint that is below the first one
all_past : (c n : ℕ) (es : List Numbered) → RiseFrom n es → c < n → past c es ≡ es
all_past c n [] r late = refl
all_past c n (e ∷ es) r late =
    let head : e.0 ≡ n = rises_head n e es r in
    past_late c e es (omega arith)
    ∙ ap (λ (l : List Numbered). e ∷ l) (all_past c (n + 1) es (rises_tail n e es r) (omega arith))

-- an entry past the checkpoint ends as those past it
reaches_late : (c n f : ℕ) (e : Numbered) (es : List Numbered) → RiseFrom n (e ∷ es) → c < e.0
    → RiseFrom f (past c (e ∷ es)) → n + length (e ∷ es) ≡ f + length (past c (e ∷ es))
reaches_late c n f e es r late s =
    let head : e.0 ≡ n = rises_head n e es r in
    let same : past c (e ∷ es) ≡ e ∷ es =
    past_late c e es late
    ∙ ap (λ (l : List Numbered). e ∷ l) (all_past c (n + 1) es (rises_tail n e es r) (omega arith)) in
    let first : e.0 ≡ f = rises_head f e es (subst (RiseFrom f) same s) in
    omega (arith, ap length same)

-- all entries end where those past the checkpoint end, if there are some
pub reaches : (c n f : ℕ) (es : List Numbered) → RiseFrom n es → past c es ≢ [] → RiseFrom f (past c es)
    → n + length es ≡ f + length (past c es)
reaches c n f [] r some s = absurd (some refl)
reaches c n f (e ∷ es) r some s =
    ⊎_elim (λ (late : c < e.0). reaches_late c n f e es r late s)
    (λ (early : e.0 ≤ c).
    let same : past c (e ∷ es) ≡ past c es = past_early c e es early in
    let rest : n + 1 + length es ≡ f + length (past c es) =
    reaches c (n + 1) f es (rises_tail n e es r) (λ (none : past c es ≡ []). some (same ∙ none))
    (subst (RiseFrom f) same s) in
    omega (arith, ap length same, rest))
    (cases_lt c e.0)

-- behind entries up to a checkpoint the first one past it is the first of all that are
pub first_is : (c : ℕ) (es : List Numbered) (k : ℕ) (e : Numbered) → k < length es → e ≡ get_or es k e → c < e.0
    → past c (take k es) ≡ [] → slice_get (past c es) 0 ≡ Some e
first_is c es k e within here late none =
    let front : past c (take (k + 1) es) ≡ e ∷ [] =
    past_more c es k e within here late ∙ ap (λ (l : List Numbered). l ++ e ∷ []) none in
    let whole : past c es ≡ (e ∷ []) ++ past c (drop (k + 1) es) =
    ap (past c) (sym (take-append-drop (k + 1) es))
    ∙ filter-append (λ (d : Numbered). nat_lt c d.0) (take (k + 1) es) (drop (k + 1) es)
    ∙ ap (λ (l : List Numbered). l ++ past c (drop (k + 1) es)) front in
    ap (λ (l : List Numbered). slice_get l 0) whole

-- the last one of a list is that behind the others
pub last_push : (es : List Numbered) (e : Numbered) → slice_get (es ++ e ∷ []) (length (es ++ e ∷ []) - 1) ≡ Some e
last_push es e =
    let n : length (es ++ e ∷ []) - 1 ≡ length es = omega (arith, length_push es e) in
    ap (slice_get (es ++ e ∷ [])) n
    ∙ slice_get-get_or (es ++ e ∷ []) (length es) e (omega (arith, length_push es e))
    ∙ ap (λ (d : Numbered). Some d) (get_or_push es e e (length es) refl)

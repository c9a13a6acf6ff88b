-- How reading goes on from one front to another.
use Rattle.std.proofs.Common.{◌≡◌, ◌∙◌, ◌≤◌, ◌<◌, ◌+◌, ℕ, List, [], ◌∷◌, ◌++◌, refl, sym, ap, subst, length, get_or, map, take, length-append, arith}
use Rattle.std.proofs.lemmas.List.{map-append, length-map}
use Rattle.doc_model.specs.declared.entry.Entry.{Entry}
use Rattle.doc_model.specs.declared.entry.Entry.TheVariants.{Commit, Forget}
use Rattle.doc_meaning.specs.History.{AreEntries, merge_after}
use Rattle.directory_meaning.specs.Bodies.{Numbered, past}
use Rattle.directory_reading.specs.Walking.{Reads}
use Rattle.directory_reading.specs.declared.walk.ReplayPoint.{ReplayPoint}
use Rattle.directory_reading.proofs.NumberLemmas.{past_more, past_same, rises-append}

merge_after-append : (m : ℕ) (xs ys : List Entry) → merge_after m (xs ++ ys) ≡ merge_after (merge_after m xs) ys
merge_after-append m [] ys = refl
merge_after-append m (Commit ops ∷ xs) ys = merge_after-append m xs ys
merge_after-append m (Forget to ∷ xs) ys = merge_after-append to xs ys

AreEntries-append : (f g m : ℕ) (xs ys : List Entry) → AreEntries f m xs → g ≡ f + length xs
    → AreEntries g (merge_after m xs) ys → AreEntries f m (xs ++ ys)
AreEntries-append f g m [] ys a e b = let same : g ≡ f = omega arith in rw (← same) b
AreEntries-append f g m (Commit ops ∷ xs) ys a e b =
    (a.0, a.1, AreEntries-append (f + 1) g m xs ys a.2 (omega (arith, e)) b)
AreEntries-append f g m (Forget to ∷ xs) ys a e b =
    (a.0, a.1, AreEntries-append (f + 1) g to xs ys a.2 (omega (arith, e)) b)

pub Reads-none : (at : ReplayPoint) → Reads at [] at
Reads-none at = record { rises = refl; rules = tt; reaches = omega arith; merges = refl }

pub Reads-append : (at mid to : ReplayPoint) (xs ys : List Numbered) → Reads at xs mid → Reads mid ys to
    → Reads at (xs ++ ys) to
Reads-append at mid to xs ys r s =
    let both : map (λ (e : Numbered). e.1) (xs ++ ys) ≡ map (λ e. e.1) xs ++ map (λ e. e.1) ys =
    map-append (λ (e : Numbered). e.1) xs ys in
    let reached : mid.number + 1 ≡ at.number + 1 + length xs = omega (arith, r.reaches) in
    let front : mid.number ≡ at.number + length (map (λ (e : Numbered). e.1) xs) =
    omega (arith, r.reaches, length-map xs (λ (e : Numbered). e.1)) in
    let entries : AreEntries mid.number (merge_after at.merge (map (λ e. e.1) xs)) (map (λ e. e.1) ys) =
    subst (λ (m : ℕ). AreEntries mid.number m (map (λ e. e.1) ys)) r.merges s.rules in
    record {
      rises = rises-append (at.number + 1) (mid.number + 1) xs ys r.rises reached s.rises;
      rules = subst (λ (l : List Entry). AreEntries at.number at.merge l) (sym both)
          (AreEntries-append at.number mid.number at.merge (map (λ e. e.1) xs) (map (λ e. e.1) ys) r.rules front
          entries);
      reaches = omega (arith, r.reaches, s.reaches, length-append xs ys);
      merges = s.merges ∙ ap (λ (m : ℕ). merge_after m (map (λ e. e.1) ys)) r.merges
          ∙ sym (merge_after-append at.merge (map (λ e. e.1) xs) (map (λ e. e.1) ys))
          ∙ ap (merge_after at.merge) (sym both);
    }

-- one entry more, past the checkpoint
pub Reads-more : (c : ℕ) (at mid to : ReplayPoint) (es : List Numbered) (k : ℕ) (e : Numbered) → k < length es
    → e ≡ get_or es k e → c < e.0 → Reads at (past c (take k es)) mid → Reads mid (e ∷ []) to
    → Reads at (past c (take (k + 1) es)) to
Reads-more c at mid to es k e within here late r s =
    subst (λ (l : List Numbered). Reads at l to) (sym (past_more c es k e within here late))
    (Reads-append at mid to (past c (take k es)) (e ∷ []) r s)

-- one entry more, up to the checkpoint
pub Reads-same : (c : ℕ) (at mid : ReplayPoint) (es : List Numbered) (k : ℕ) (e : Numbered) → k < length es
    → e ≡ get_or es k e → e.0 ≤ c → Reads at (past c (take k es)) mid → Reads at (past c (take (k + 1) es)) mid
Reads-same c at mid es k e within here early r =
    subst (λ (l : List Numbered). Reads at l mid) (sym (past_same c es k e within here early)) r

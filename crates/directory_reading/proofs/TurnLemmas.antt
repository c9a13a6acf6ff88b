-- Which of two journals is read first, and where an entry is misplaced in either.
use Rattle.std.proofs.Common.{◌≡◌, ◌≢◌, ◌∙◌, ◌≤◌, ◌<◌, ◌+◌, ℕ, zero, suc, List, [], ◌∷◌, ◌++◌, Option, Some, None, inl, inr, ⊎_elim, refl, sym, ap, subst, length, option_map, take, slice_get, arith}
use Rattle.std.proofs.lemmas.Bool.{cases_lt}
use Rattle.std.proofs.lemmas.Option.{none-some, same_Some, slice_get_within}
use Rattle.journal_bodies.specs.Roots.{PlainRoot}
use Rattle.directory_meaning.specs.Bodies.{Bodies, Numbered, past}
use Rattle.directory_meaning.specs.Damages.{BreaksTurn, IsBelow, IsMisplaced, gate_of}
use Rattle.directory_reading.specs.Reading.{HasEntries}
use Rattle.directory_reading.specs.Walking.{ComesLast, Reads, StopsAt, StopsIn, ahead_of, start_of}
use Rattle.directory_reading.specs.declared.entries.EntriesRead.{EntriesRead}
use Rattle.directory_reading.specs.declared.walk.ReplayPoint.{ReplayPoint}
use Rattle.directory_reading.proofs.NumberLemmas.{past_early, past_late}
use Rattle.directory_reading.proofs.WalkLemmas.{Reads-append, Reads-none}

-- the number of the first entry
abbrev pub first_of : List Numbered → Option ℕ
first_of es = option_map (λ e. e.0) (slice_get es 0)

pub none_first : (es : List Numbered) → first_of es ≡ None → es ≡ []
none_first [] h = refl
none_first (e ∷ es) h = absurd (none-some e.0 (sym h))

cons_some : (e : Numbered) (es : List Numbered) → e ∷ es ≢ []
cons_some e es h = cc

-- the place of the gate of a frame
gate_is : (bodies : List (List ℕ)) (read : EntriesRead) → HasEntries bodies read → (k place : ℕ) →
    slice_get read.gates.items k ≡ Some place → place ≡ gate_of bodies k
gate_is bodies read has k place is =
    let within : k < length bodies = omega (arith, slice_get_within read.gates.items k place is, has.gates) in
    same_Some place (gate_of bodies k) (sym is ∙ has.placed k within)

-- ---- where an entry is misplaced

-- an entry past the checkpoint is among those that are
late_some : (c : ℕ) (es : List Numbered) (k : ℕ) (e : Numbered) → slice_get es k ≡ Some e → c < e.0 → past c es ≢ []
late_some c [] k e h late = absurd (none-some e h)
late_some c (x ∷ es) zero e h late =
    let same : x ≡ e = same_Some x e h in
    let high : c < x.0 = omega (arith, late, ap (λ (d : Numbered). d.0) same) in
    λ (none : past c (x ∷ es) ≡ []). cons_some x (past c es) (sym (past_late c x es high) ∙ none)
late_some c (x ∷ es) (suc k) e h late =
    let rest = late_some c es k e h late in
    λ (none : past c (x ∷ es) ≡ []).
    ⊎_elim (λ (high : c < x.0). cons_some x (past c es) (sym (past_late c x es high) ∙ none))
    (λ (low : x.0 ≤ c). rest (sym (past_early c x es low) ∙ none)) (cases_lt c x.0)

misplaced_at : (root : PlainRoot) (file : ℕ) (own other rest : List Numbered) (front : ReplayPoint) (k : ℕ)
    → ahead_of file (past root.checkpoint own) (past root.checkpoint other) ≡ rest
    → Reads (start_of root) rest front → StopsAt root.checkpoint front own k → IsMisplaced root file own other k
misplaced_at root file own other rest front k is r s =
    let all = Reads-append (start_of root) front s.reached rest (past root.checkpoint (take k own)) r s.read in
    record {
      e = s.e;
      before = rest ++ past root.checkpoint (take k own);
      here = s.here;
      late = s.late;
      read = ap (λ (l : List Numbered). l ++ past root.checkpoint (take k own)) (sym is);
      rises = all.rises;
      rules = all.rules;
      breaks =
          ⊎_elim
          (λ (apart : s.e.0 ≢ s.reached.number + 1).
          inl (λ (h : s.e.0 ≡ root.checkpoint + 1 + length (rest ++ past root.checkpoint (take k own))).
          apart (omega (arith, h, all.reaches))))
          (λ (below : IsBelow s.reached.merge s.e.1). inr (subst (λ (m : ℕ). IsBelow m s.e.1) all.merges below))
          s.breaks;
    }

-- the journal that is read first has it
earlier_misplaced : (root : PlainRoot) (file : ℕ) (own other : List Numbered) (k : ℕ)
    → (past root.checkpoint own ≢ []
    → ahead_of file (past root.checkpoint own) (past root.checkpoint other) ≡ [])
    → StopsAt root.checkpoint (start_of root) own k → IsMisplaced root file own other k
earlier_misplaced root file own other k first s =
    misplaced_at root file own other [] (start_of root) k (first (late_some root.checkpoint own k s.e s.here s.late))
    (Reads-none (start_of root)) s

-- ---- the place of its gate

module _ (bodies : Bodies) (root : PlainRoot) (first second : EntriesRead) (zeros : HasEntries (bodies 0) first)
    (ones : HasEntries (bodies 1) second) where
  abbrev entries_0 : List Numbered
  entries_0 = first.entries.items

  abbrev entries_1 : List Numbered
  entries_1 = second.entries.items

  first_broken : (k place : ℕ) → IsMisplaced root 0 entries_0 entries_1 k → slice_get first.gates.items k ≡ Some place →
      BreaksTurn bodies root 0 place
  first_broken k place misplaced gate = record {
    entries_0 = entries_0;
    entries_1 = entries_1;
    k = k;
    journal = omega arith;
    first_journal = zeros.journal;
    second_journal = ones.journal;
    misplaced = misplaced;
    placed = gate_is (bodies 0) first zeros k place gate;
  }

  second_broken : (k place : ℕ) → IsMisplaced root 1 entries_1 entries_0 k →
      slice_get second.gates.items k ≡ Some place → BreaksTurn bodies root 1 place
  second_broken k place misplaced gate = record {
    entries_0 = entries_0;
    entries_1 = entries_1;
    k = k;
    journal = omega arith;
    first_journal = zeros.journal;
    second_journal = ones.journal;
    misplaced = misplaced;
    placed = gate_is (bodies 1) second ones k place gate;
  }

  -- if the first journal comes last
  pub stops_by_first : ComesLast root.checkpoint entries_0 entries_1 0 → (file place : ℕ) →
      StopsIn root 0 second first file place → BreaksTurn bodies root file place
  stops_by_first last file place (inl s) = subst (λ f. BreaksTurn bodies root f place) (sym s.log)
      (second_broken s.frame place (earlier_misplaced root 1 entries_1 entries_0 s.frame last.before s.stops) s.gate)
  stops_by_first last file place (inr s) = subst (λ f. BreaksTurn bodies root f place) (sym s.2.log)
      (first_broken s.2.frame place (misplaced_at root 0 entries_0 entries_1 (past root.checkpoint entries_1) s.0
      s.2.frame last.behind s.1 s.2.stops) s.2.gate)

  -- if the second one does
  pub stops_by_second : ComesLast root.checkpoint entries_0 entries_1 1 → (file place : ℕ) →
      StopsIn root 1 first second file place → BreaksTurn bodies root file place
  stops_by_second last file place (inl s) = subst (λ f. BreaksTurn bodies root f place) (sym s.log)
      (first_broken s.frame place (earlier_misplaced root 0 entries_0 entries_1 s.frame last.before s.stops) s.gate)
  stops_by_second last file place (inr s) = subst (λ f. BreaksTurn bodies root f place) (sym s.2.log)
      (second_broken s.2.frame place (misplaced_at root 1 entries_1 entries_0 (past root.checkpoint entries_0) s.0
      s.2.frame last.behind s.1 s.2.stops) s.2.gate)

-- Bytes that wait, and bytes that went to the sink.
use Rattle.std.proofs.Common.{inl, inr, ◌≡◌, ◌<◌, ◌+◌, ◌++◌, [], ℕ, List, Option, length, take, arith, sym, ap, ◌∙◌, subst, append_assoc, append-nil, length-append}
use Rattle.std.proofs.KnownBytes.{Appends-trans}
use Rattle.std.proofs.Math.Seq.{take-append-add}
use Rattle.std.specs.Io.KnownBytes.{Appends}
use Rattle.client_run.specs.Closing.{Moves, Tears, Closes}
use Rattle.transcript.specs.Transcript.{most_waiting}
use Rattle.transcript.specs.declared.session_end.SessionEnd.{SessionEnd}

module _ (a b : List ℕ) (w w' w'' : Option (List ℕ)) (xs ys : List ℕ) where
  -- what waits and what is said later, behind what went
  joined : (out : List ℕ) → out ++ b ≡ a ++ xs → out ++ (b ++ ys) ≡ a ++ (xs ++ ys)
  joined out is = sym (append_assoc out b ys) ∙ (ap (λ (x : List ℕ). x ++ ys) is ∙ append_assoc a xs ys)

  pub moves_more : (c : List ℕ) → Moves a b w w' xs → Moves b c w' w'' ys → Moves a c w w'' (xs ++ ys)
  moves_more c (out, went, is) (out', went', is') = (
    out ++ out',
    Appends-trans w w' w'' out out' went went',
    append_assoc out out' c ∙ (ap (λ (x : List ℕ). out ++ x) is' ∙ joined out is),
  )

  pub tears_more : Moves a b w w' xs → Tears b w' w'' ys → Tears a w w'' (xs ++ ys)
  tears_more (out, went, is) (n, went', some) =
      let same : out ++ take n (b ++ ys) ≡ take (length out + n) (a ++ (xs ++ ys)) =
      sym (take-append-add out (b ++ ys) n) ∙ ap (take (length out + n)) (joined out is) in (
        length out + n,
        subst (λ (x : List ℕ). Appends w w'' x) same (Appends-trans w w' w'' out (take n (b ++ ys))
            went went'),
        omega (arith, ap length (joined out is), length-append out (b ++ ys), some),
      )

  pub appends_more : Moves a b w w' xs → Appends w' w'' (b ++ ys) → Appends w w'' (a ++ (xs ++ ys))
  appends_more (out, went, is) went' = subst (λ (x : List ℕ). Appends w w'' x) (joined out is)
      (Appends-trans w w' w'' out (b ++ ys) went went')

  pub closes_more : (how result : SessionEnd) → Moves a b w w' xs → Closes how result b w' w'' ys →
      Closes how result a w w'' (xs ++ ys)
  closes_more how result moves (inl (is, went)) = inl (is, appends_more moves went)
  closes_more how result moves (inr (is, tears)) = inr (is, tears_more moves tears)

-- all was sent
pub all_sent : (a b : List ℕ) (w w' : Option (List ℕ)) (xs : List ℕ) → Moves a b w w' xs → b ≡ [] →
    Appends w w' (a ++ xs)
all_sent a b w w' xs (out, went, is) none =
    let same : out ≡ a ++ xs = sym (append-nil out) ∙ (ap (λ (x : List ℕ). out ++ x) (sym none) ∙ is) in
    subst (λ (x : List ℕ). Appends w w' x) same went

-- what is said first, and then no more
pub closes_behind : (a b : List ℕ) (w w' w'' : Option (List ℕ)) (xs : List ℕ) (how result : SessionEnd) →
    Moves a b w w' xs → Closes how result b w' w'' [] → Closes how result a w w'' xs
closes_behind a b w w' w'' xs how result moves closes =
    subst (λ (x : List ℕ). Closes how result a w w'' x) (append-nil xs)
    (closes_more a b w w' w'' xs [] how result moves closes)

-- what waits doesn't grow unless bytes come
pub still_room : (a b : List ℕ) (w w' : Option (List ℕ)) → Moves a b w w' [] → length a < most_waiting →
    length b < most_waiting
still_room a b w w' (out, went, is) room = omega (arith, ap length (is ∙ append-nil a), length-append out b, room)

-- The output of a session that a failed write ended.
use Rattle.std.proofs.Common.{◌≡◌, ◌<◌, ◌≤◌, ◌+◌, ◌-◌, ◌++◌, ◌∷◌, [], ℕ, List, length, take, drop, arith, sym, ap, ◌∙◌, append_assoc, append-nil, length-append}
use Rattle.std.proofs.Math.Seq.{take-append-add, take-append_seam}
use Rattle.std.proofs.lemmas.Grind.{flat_map-append}
use Rattle.std.proofs.lemmas.List.{take-append-drop}
use Rattle.client_run.proofs.Steps.{together_more}
use Rattle.transcript.specs.Transcript.{together, most_waiting, IsCut}

-- the first texts are no more than all
first_texts : (k : ℕ) (texts : List (List ℕ)) → length (together (take k texts)) ≤ length (together texts)
first_texts k texts =
    let parts : together texts ≡ together (take k texts) ++ together (drop k texts) =
    ap together (sym (take-append-drop k texts)) ∙ flat_map-append (λ (t : List ℕ). t) (take k texts)
    (drop k texts) in
    omega (arith, ap length parts, length-append (together (take k texts)) (together (drop k texts)))

module _ (texts : List (List ℕ)) (output waits : List ℕ) (sent : output ++ waits ≡ together texts)
    (room : length waits < most_waiting) where
  -- a beginning of what waits and more is one of all texts
  torn : (n : ℕ) (bytes : List ℕ) → output ++ take n (waits ++ bytes) ≡ take (length output + n)
      (together texts ++ bytes)
  torn n bytes =
      sym (take-append-add output (waits ++ bytes) n)
      ∙ ap (take (length output + n)) (sym (append_assoc output waits bytes) ∙ ap (λ (x : List ℕ). x ++ bytes) sent)

  -- what was written and waited, behind what was written later
  within : (more : List ℕ) → length (together texts) < length (output ++ more) + most_waiting
  within more = omega (arith, ap length (sym sent), length-append output waits, length-append output more, room)

  pub cut_here : (n : ℕ) → 0 < length (waits ++ []) → IsCut texts (output ++ take n (waits ++ []))
  cut_here n some = (
    (length output + n, torn n [] ∙ ap (take (length output + n)) (append-nil (together texts))),
    omega (arith, ap length sent, length-append output waits, length-append waits [], some),
    omega (arith, first_texts (length texts - 1) texts, within (take n (waits ++ []))),
  )

  -- with one text more
  pub cut_behind : (text : List ℕ) (n : ℕ) → 0 < length (waits ++ text) → IsCut (texts ++ text ∷ [])
      (output ++ take n (waits ++ text))
  cut_behind text n some = (
    (length output + n, torn n text ∙ ap (take (length output + n)) (sym (together_more texts text))),
    omega (
      arith,
      ap length (together_more texts text),
      length-append (together texts) text,
      ap length sent,
      length-append output waits,
      length-append waits text,
      some,
    ),
    omega (arith, ap (λ (ts : List (List ℕ)). length (together ts)) all_before, within (take n (waits ++ text))),
  )
    where
      count : length (texts ++ text ∷ []) - 1 ≡ length texts
      count = omega (arith, length-append texts (text ∷ []))

      all_before : take (length (texts ++ text ∷ []) - 1) (texts ++ text ∷ []) ≡ texts
      all_before = ap (λ (k : ℕ). take k (texts ++ text ∷ [])) count ∙ take-append_seam texts (text ∷ [])

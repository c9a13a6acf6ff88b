-- The forms of a line as rows.
use Rattle.std.proofs.Common.{◌≡◌, inl, inr, ℕ, List, [], ◌∷◌, ◌++◌, refl, sym, ◌∙◌, ap, codes, arith}
use Rattle.std.specs.Fmt.{decimal}
use Rattle.transcript.specs.Forms as form
use Rattle.transcript.specs.declared.command.When.TheVariants.{At, Pinned}
use Rattle.transcript.proofs.FormLemmas.{spaced}
use Rattle.client_lines.specs.LineForms.{IsLaterText}
use Rattle.client_lines.proofs.RowTexts.{IsOfThese, at_rows, pinned_rows}

-- a head, a word, a space and a last text
spaced_line : (head digits word rest last more line : List ℕ) → line ≡ head ++ more → more ≡ digits ++ rest →
    rest ≡ 0x20 ∷ last → digits ≡ word → line ≡ head ++ (((word ++ 0x20 ∷ []) ++ []) ++ last)
spaced_line head digits word rest last more line a b c d =
    a ∙ ap (λ (l : List ℕ). head ++ l) (b ∙ (ap (λ (l : List ℕ). digits ++ l) c
    ∙ (ap (λ (l : List ℕ). l ++ 0x20 ∷ last) d ∙ sym (spaced word last))))

line_spaced : (head word last line : List ℕ) → line ≡ head ++ (((word ++ 0x20 ∷ []) ++ []) ++ last) →
    line ≡ head ++ (word ++ 0x20 ∷ last)
line_spaced head word last line is = is ∙ ap (λ (l : List ℕ). head ++ l) (spaced word last)

pub at_there : (line : List ℕ) → IsOfThese at_rows line → IsLaterText (λ n. n ≡ 3) line
at_there line (inl (more, (digits, rest, (t, le, is), (uri, own, eq2), eq1), eq0)) = (
  form.get (At t) uri,
  (
    (le, own),
    spaced_line (codes "get at ") digits (decimal t) rest uri more line eq0 eq1 eq2 is,
  ),
  refl,
  refl,
)
at_there line (inr (inl (more, (digits, rest, (t, le, is), (json, own, eq2), eq1), eq0))) = (
  form.search (At t) json,
  (
    le,
    spaced_line (codes "search at ") digits (decimal t) rest json more line eq0 eq1 eq2 is,
  ),
  refl,
  refl,
)
at_there line (inr (inr (inl (more, (digits, rest, (t, le, is), (json, own, eq2), eq1), eq0)))) = (
  form.estimate (At t) json,
  (
    le,
    spaced_line (codes "estimate at ") digits (decimal t) rest json more line eq0 eq1 eq2 is,
  ),
  refl,
  refl,
)
at_there line (inr (inr (inr none))) = absurd none

pub at_back : (line : List ℕ) → IsLaterText (λ n. n ≡ 3) line → IsOfThese at_rows line
at_back line (form.get (At t) uri, fits, later, words) =
    inl (
      decimal t ++ 0x20 ∷ uri,
      (decimal t, 0x20 ∷ uri, (t, fits.0.0, refl), (uri, fits.0.1, refl), refl),
      line_spaced (codes "get at ") (decimal t) uri line fits.1,
    )
at_back line (form.search (At t) json, fits, later, words) =
    inr (inl (
      decimal t ++ 0x20 ∷ json,
      (decimal t, 0x20 ∷ json, (t, fits.0, refl), (json, tt, refl), refl),
      line_spaced (codes "search at ") (decimal t) json line fits.1,
    ))
at_back line (form.estimate (At t) json, fits, later, words) =
    inr (inr (inl (
      decimal t ++ 0x20 ∷ json,
      (decimal t, 0x20 ∷ json, (t, fits.0, refl), (json, tt, refl), refl),
      line_spaced (codes "estimate at ") (decimal t) json line fits.1,
    )))
at_back line (f, fits, later, words) = absurd (omega (arith, words))

pub pinned_there : (line : List ℕ) → IsOfThese pinned_rows line → IsLaterText (λ n. n ≡ 2) line
pinned_there line (inl (uri, own, eq)) = (form.get Pinned uri, ((tt, own), eq), refl, refl)
pinned_there line (inr (inl (json, own, eq))) = (form.search Pinned json, (tt, eq), refl, refl)
pinned_there line (inr (inr (inl (json, own, eq)))) = (form.estimate Pinned json, (tt, eq), refl, refl)
pinned_there line (inr (inr (inr none))) = absurd none

pub pinned_back : (line : List ℕ) → IsLaterText (λ n. n ≡ 2) line → IsOfThese pinned_rows line
pinned_back line (form.get Pinned uri, fits, later, words) = inl (uri, fits.0.1, fits.1)
pinned_back line (form.search Pinned json, fits, later, words) = inr (inl (json, tt, fits.1))
pinned_back line (form.estimate Pinned json, fits, later, words) = inr (inr (inl (json, tt, fits.1)))
pinned_back line (form.put uri json, fits, later, words) = absurd cc
pinned_back line (f, fits, later, words) = absurd (omega (arith, words))

-- The other forms of a line, and those that are answered, as rows.
use Rattle.std.proofs.Common.{◌≡◌, ◌<◌, inl, inr, ℕ, List, [], ◌∷◌, ◌++◌, refl, sym, ◌∙◌, ap, codes, arith}
use Rattle.std.specs.Fmt.{decimal}
use Rattle.transcript.specs.Forms as form
use Rattle.transcript.specs.declared.command.When.TheVariants.{Front}
use Rattle.transcript.proofs.FormLemmas.{spaced}
use Rattle.client_lines.specs.LineForms.{IsLaterText, IsAnsweredText}
use Rattle.client_lines.proofs.RowTexts.{IsOfThese, other_rows, answered_rows}

-- a head, a word, a space and a last text
spaced_line : (head digits word rest last more line : List ℕ) → line ≡ head ++ more → more ≡ digits ++ rest →
    rest ≡ 0x20 ∷ last → digits ≡ word → line ≡ head ++ (((word ++ 0x20 ∷ []) ++ []) ++ last)
spaced_line head digits word rest last more line a b c d =
    a ∙ ap (λ (l : List ℕ). head ++ l) (b ∙ (ap (λ (l : List ℕ). digits ++ l) c
    ∙ (ap (λ (l : List ℕ). l ++ 0x20 ∷ last) d ∙ sym (spaced word last))))

line_spaced : (head word last line : List ℕ) → line ≡ head ++ (((word ++ 0x20 ∷ []) ++ []) ++ last) →
    line ≡ head ++ (word ++ 0x20 ∷ last)
line_spaced head word last line is = is ∙ ap (λ (l : List ℕ). head ++ l) (spaced word last)

pub others_there : (line : List ℕ) → IsOfThese other_rows line → IsLaterText (λ n. n < 2) line
others_there line (inl (json, own, eq)) = (form.commit json, (tt, eq), refl, omega arith)
others_there line (inr (inl (json, own, eq))) = (form.estimate Front json, (tt, eq), refl, omega arith)
others_there line (inr (inr (inl (digits, (t, le, is), eq)))) =
    (form.forget t, (le, eq ∙ ap (λ (l : List ℕ). codes "forget " ++ l) is), refl, omega arith)
others_there line (inr (inr (inr (inl (more, none, eq))))) =
    (form.pin, (tt, eq ∙ ap (λ (l : List ℕ). codes "pin" ++ l) none), refl, omega arith)
others_there line (inr (inr (inr (inr (inl (more, none, eq)))))) =
    (form.unpin, (tt, eq ∙ ap (λ (l : List ℕ). codes "unpin" ++ l) none), refl, omega arith)
others_there line (inr (inr (inr (inr (inr (inl (more, none, eq))))))) =
    (form.save, (tt, eq ∙ ap (λ (l : List ℕ). codes "save" ++ l) none), refl, omega arith)
others_there line (inr (inr (inr (inr (inr (inr (inl (more, none, eq)))))))) =
    (form.merge, (tt, eq ∙ ap (λ (l : List ℕ). codes "merge" ++ l) none), refl, omega arith)
others_there line (inr (inr (inr (inr (inr (inr (inr (inl (more, none, eq))))))))) =
    (form.revive, (tt, eq ∙ ap (λ (l : List ℕ). codes "revive" ++ l) none), refl, omega arith)
others_there line (inr (inr (inr (inr (inr (inr (inr (inr (none))))))))) = absurd none

pub others_back : (line : List ℕ) → IsLaterText (λ n. n < 2) line → IsOfThese other_rows line
others_back line (form.commit json, fits, later, words) = inl (json, tt, fits.1)
others_back line (form.estimate Front json, fits, later, words) = inr (inl (json, tt, fits.1))
others_back line (form.forget t, fits, later, words) =
    inr (inr (inl (decimal t, (t, fits.0, refl), fits.1)))
others_back line (form.pin, fits, later, words) = inr (inr (inr (inl ([], refl, fits.1))))
others_back line (form.unpin, fits, later, words) = inr (inr (inr (inr (inl ([], refl, fits.1)))))
others_back line (form.save, fits, later, words) = inr (inr (inr (inr (inr (inl ([], refl, fits.1))))))
others_back line (form.merge, fits, later, words) = inr (inr (inr (inr (inr (inr (inl ([], refl, fits.1)))))))
others_back line (form.revive, fits, later, words) = inr (inr (inr (inr (inr (inr (inr (inl ([], refl, fits.1))))))))
others_back line (form.put uri json, fits, later, words) = absurd cc
others_back line (form.remove uri, fits, later, words) = absurd cc
others_back line (form.get Front uri, fits, later, words) = absurd cc
others_back line (form.search Front json, fits, later, words) = absurd cc
others_back line (form.stamp, fits, later, words) = absurd cc
others_back line (form.quit, fits, later, words) = absurd cc
others_back line (f, fits, later, words) = absurd (omega (arith, words))

pub answered_there : (line : List ℕ) → IsOfThese answered_rows line → IsAnsweredText line
answered_there line (inl (more, (uri, rest, own, (json, any, eq2), eq1), eq0)) =
    (form.put uri json, (own, spaced_line (codes "put ") uri uri rest json more line eq0 eq1 eq2 refl), refl)
answered_there line (inr (inl (uri, own, eq))) = (form.remove uri, (own, eq), refl)
answered_there line (inr (inr (inl (uri, own, eq)))) = (form.get Front uri, ((tt, own), eq), refl)
answered_there line (inr (inr (inr (inl (json, own, eq))))) = (form.search Front json, (tt, eq), refl)
answered_there line (inr (inr (inr (inr (inl (more, none, eq)))))) =
    (form.stamp, (tt, eq ∙ ap (λ (l : List ℕ). codes "stamp" ++ l) none), refl)
answered_there line (inr (inr (inr (inr (inr (inl (more, none, eq))))))) =
    (form.quit, (tt, eq ∙ ap (λ (l : List ℕ). codes "quit" ++ l) none), refl)
answered_there line (inr (inr (inr (inr (inr (inr (none))))))) = absurd none

pub answered_back : (line : List ℕ) → IsAnsweredText line → IsOfThese answered_rows line
answered_back line (form.put uri json, fits, is) =
    inl (
      uri ++ 0x20 ∷ json,
      (uri, 0x20 ∷ json, fits.0, (json, tt, refl), refl),
      line_spaced (codes "put ") uri json line fits.1,
    )
answered_back line (form.remove uri, fits, is) = inr (inl (uri, fits.0, fits.1))
answered_back line (form.get Front uri, fits, is) = inr (inr (inl (uri, fits.0.1, fits.1)))
answered_back line (form.search Front json, fits, is) = inr (inr (inr (inl (json, tt, fits.1))))
answered_back line (form.stamp, fits, is) = inr (inr (inr (inr (inl ([], refl, fits.1)))))
answered_back line (form.quit, fits, is) = inr (inr (inr (inr (inr (inl ([], refl, fits.1))))))
answered_back line (f, fits, is) = absurd cc

-- Each form is of one of the groups.
use Rattle.std.proofs.Common.{◌≡◌, ◌≤◌, ◌<◌, ◌⊎◌, inl, inr, ℕ, Bool, true, false, List, ◌++◌, take, max, refl, sym, ◌∙◌, subst, codes, arith}
use Rattle.std.proofs.lemmas.Bool.{cases_lt}
use Rattle.std.specs.Prelude.{IsTrue, ◌||◌}
use Rattle.text_prefixes.specs.Prefixes.{Begins}
use Rattle.transcript.specs.Forms.{Form, Fits, IsFormText}
use Rattle.transcript.specs.Forms as form
use Rattle.transcript.specs.declared.command.When.TheVariants.{Front, At, Pinned}
use Rattle.client_lines.specs.LineForms.{IsLaterText, IsAnsweredText, IsUnformed, LacksCommon}
use Rattle.client_lines.specs.Rows.{MatchesSome}
use Rattle.client_lines.specs.declared.prefix_match.PrefixMatch.{PrefixMatch}
use Rattle.client_lines.proofs.PrefixMatchLemmas.{goes_or, goes_same}

abbrev AtText : List ℕ → Type 0
AtText = IsLaterText (λ n. n ≡ 3)

abbrev PinnedText : List ℕ → Type 0
PinnedText = IsLaterText (λ n. n ≡ 2)

abbrev OtherText : List ℕ → Type 0
OtherText = IsLaterText (λ n. n < 2)

abbrev Grouped : List ℕ → Type 0
Grouped line = ((AtText line ⊎ PinnedText line) ⊎ OtherText line) ⊎ IsAnsweredText line

grouped : (line : List ℕ) → IsFormText line → Grouped line
grouped line (form.put uri json, fits) = inr (form.put uri json, fits, refl)
grouped line (form.remove uri, fits) = inr (form.remove uri, fits, refl)
grouped line (form.commit json, fits) = inl (inr (form.commit json, fits, refl, omega arith))
grouped line (form.get Front uri, fits) = inr (form.get Front uri, fits, refl)
grouped line (form.get (At t) uri, fits) = inl (inl (inl (form.get (At t) uri, fits, refl, refl)))
grouped line (form.get Pinned uri, fits) = inl (inl (inr (form.get Pinned uri, fits, refl, refl)))
grouped line (form.search Front json, fits) = inr (form.search Front json, fits, refl)
grouped line (form.search (At t) json, fits) = inl (inl (inl (form.search (At t) json, fits, refl, refl)))
grouped line (form.search Pinned json, fits) = inl (inl (inr (form.search Pinned json, fits, refl, refl)))
grouped line (form.estimate Front json, fits) = inl (inr (form.estimate Front json, fits, refl, omega arith))
grouped line (form.estimate (At t) json, fits) = inl (inl (inl (form.estimate (At t) json, fits, refl, refl)))
grouped line (form.estimate Pinned json, fits) = inl (inl (inr (form.estimate Pinned json, fits, refl, refl)))
grouped line (form.stamp, fits) = inr (form.stamp, fits, refl)
grouped line (form.forget to, fits) = inl (inr (form.forget to, fits, refl, omega arith))
grouped line (form.pin, fits) = inl (inr (form.pin, fits, refl, omega arith))
grouped line (form.unpin, fits) = inl (inr (form.unpin, fits, refl, omega arith))
grouped line (form.save, fits) = inl (inr (form.save, fits, refl, omega arith))
grouped line (form.merge, fits) = inl (inr (form.merge, fits, refl, omega arith))
grouped line (form.revive, fits) = inl (inr (form.revive, fits, refl, omega arith))
grouped line (form.quit, fits) = inr (form.quit, fits, refl)

formed : (line : List ℕ) → Grouped line → IsFormText line
formed line (inl (inl (inl (f, fits, h, w)))) = (f, fits)
formed line (inl (inl (inr (f, fits, h, w)))) = (f, fits)
formed line (inl (inr (f, fits, h, w))) = (f, fits)
formed line (inr (f, fits, h)) = (f, fits)

-- no answered form but a search, and no search
pub not_answered : (line : List ℕ) → LacksCommon line → ((rest : List ℕ) → line ≡ codes "search " ++ rest → ⊥) →
    IsAnsweredText line → ⊥
not_answered line lacks none (form.put uri json, fits, is) = lacks.no_put uri json fits
not_answered line lacks none (form.remove uri, fits, is) = lacks.no_remove uri fits
not_answered line lacks none (form.get Front uri, fits, is) = lacks.no_get uri fits
not_answered line lacks none (form.search Front json, fits, is) = none json fits.1
not_answered line lacks none (form.stamp, fits, is) = lacks.no_stamp fits.1
not_answered line lacks none (form.quit, fits, is) = lacks.no_quit fits.1
not_answered line lacks none (f, fits, is) = absurd cc

untrue : (b : Bool) → b ≡ false → IsTrue b → ⊥
untrue b no' so = let h : true ≡ false = sym so ∙ no' in absurd cc

-- a line that is of no group
pub unformed : (line : List ℕ) (at pinned others answered fixed both prefix_match : PrefixMatch) → MatchesSome AtText line at →
    MatchesSome PinnedText line pinned → MatchesSome OtherText line others → MatchesSome IsAnsweredText line answered →
    fixed.count ≡ max at.count pinned.count → fixed.whole ≡ (at.whole || pinned.whole) →
    both.count ≡ max fixed.count others.count → both.whole ≡ (fixed.whole || others.whole) →
    prefix_match.count ≡ max both.count answered.count → prefix_match.whole ≡ (both.whole || answered.whole) →
    fixed.whole ≡ false → others.whole ≡ false → (IsAnsweredText line → ⊥) → IsUnformed line prefix_match.count
unformed line at pinned others answered fixed both prefix_match ga gp go gn fc fw bc bw wc ww f o none =
    let g1 = goes_or AtText PinnedText line at pinned fixed ga gp fc fw in
    let g2 = goes_or (λ l. AtText l ⊎ PinnedText l) OtherText line fixed others both g1 go bc bw in
    let g3 = goes_or (λ l. (AtText l ⊎ PinnedText l) ⊎ OtherText l) IsAnsweredText line both answered prefix_match g2 gn wc ww in
    let g = goes_same Grouped IsFormText line prefix_match formed grouped g3 in (
      λ is. out g1 (grouped line is),
      record {
        within = g.within;
        begins = begins g (cases_lt 0 prefix_match.count);
        longest = g.longest;
      },
    )
  where
    out : MatchesSome (λ l. AtText l ⊎ PinnedText l) line fixed → Grouped line → ⊥
    out g1 (inl (inl is)) = untrue fixed.whole f (g1.whole.1 is)
    out g1 (inl (inr is)) = untrue others.whole o (go.whole.1 is)
    out g1 (inr is) = none is

    begins : MatchesSome IsFormText line prefix_match → ((0 < prefix_match.count) ⊎ (prefix_match.count ≤ 0)) →
        Begins IsFormText (take prefix_match.count line)
    begins g (inl some) = g.begins some
    begins g (inr zero') =
        let at' : 0 ≡ prefix_match.count = omega arith in
        subst (λ (k : ℕ). Begins IsFormText (take k line)) at' (codes "stamp", (form.stamp, (tt, refl)))

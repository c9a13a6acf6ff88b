-- A get has its form.
use Rattle.std.proofs.Common.{◌≡◌, ◌≤◌, ◌<◌, ◌⊎◌, inl, inr, ℕ, List, [], ◌∷◌, ◌++◌, length, refl, sym, ◌∙◌, ap, subst, codes, arith}
use Rattle.std.proofs.lemmas.Bool.{cases_lt}
use Rattle.std.proofs.lemmas.List.{append_cancel_left}
use Rattle.std.proofs.lemmas.List.Elements.{All-get_or}
use Rattle.std.specs.Fmt.{decimal}
use Rattle.std.specs.Prelude.{All}
use Rattle.std.specs.Str.{IsUtf8}
use Rattle.transcript.specs.Forms.{Form, Fits, HasForm, IsWord, words_before}
use Rattle.transcript.specs.Forms as form
use Rattle.transcript.specs.declared.command.When.{When}
use Rattle.transcript.specs.declared.command.When.TheVariants.{Front, At, Pinned}
use Rattle.transcript.proofs.FormLemmas.{IsNoSpace, IsAlike, alike, same_kind}

-- no form of the same parts has more words
pub had : (line : List ℕ) (f : Form) → IsUtf8 line → Fits line f →
    ((other : Form) → Fits line other → IsAlike f other → length (words_before f) < length (words_before other) → ⊥) →
    HasForm line f
had line f utf8 fits none = record {
  utf8 = utf8;
  fits = fits;
  most = λ other own. most other own (cases_lt (length (words_before f)) (length (words_before other)));
}
  where
    most : (other : Form) → Fits line other → ((length (words_before f) < length (words_before other))
        ⊎ (length (words_before other) ≤ length (words_before f))) →
        length (words_before other) ≤ length (words_before f)
    most other own (inl more) = absurd (none other own (alike f other (same_kind line f other fits own)) more)
    most other own (inr le) = le

abbrev words : Form → ℕ
words f = length (words_before f)

-- the URI of a get is no timestamp and URI
pub get_had : (line uri : List ℕ) → IsUtf8 line → Fits line (form.get Front uri) → HasForm line (form.get Front uri)
get_had line uri utf8 fits = had line (form.get Front uri) utf8 fits
    (λ other own (alike : IsAlike (form.get Front uri) other). none alike.0 alike.1 other own alike.2)
  where
    rest_is : (rest : List ℕ) → line ≡ codes "get " ++ rest → uri ≡ rest
    rest_is rest is = append_cancel_left (codes "get ") uri rest (sym fits.1 ∙ is)

    none : (w : When) (u : List ℕ) (other : Form) → Fits line other → other ≡ form.get w u →
        length (words_before (form.get Front uri)) < length (words_before other) → ⊥
    none Front u other own is more = omega (arith, more, ap words is)
    none (At t) u other own is more =
        let fits' : Fits line (form.get (At t) u) = subst (Fits line) is own in
        let rest : List ℕ = ((decimal t ++ 0x20 ∷ []) ++ []) ++ u in
        All-get_or IsNoSpace (codes "at " ++ rest) 2 0 (omega arith)
        (subst (All IsNoSpace) (rest_is (codes "at " ++ rest) fits'.1) fits.0.1.1) refl
    none Pinned u other own is more =
        let fits' : Fits line (form.get Pinned u) = subst (Fits line) is own in
        All-get_or IsNoSpace (codes "pinned " ++ u) 6 0 (omega arith)
        (subst (All IsNoSpace) (rest_is (codes "pinned " ++ u) fits'.1) fits.0.1.1) refl

-- A line has one form at most.
use Rattle.std.proofs.Common.{◌≡◌, ◌≤◌, ◌+◌, ℕ, List, [], ◌∷◌, ◌++◌, length, refl, sym, ◌∙◌, ap, subst, codes, arith}
use Rattle.std.proofs.lemmas.Fmt.{decimal_injective}
use Rattle.std.proofs.lemmas.List.{append_cancel_left}
use Rattle.std.specs.Fmt.{decimal}
use Rattle.transcript.specs.Forms.{Form, HasForm, spaced_out, when_words, IsWhen}
use Rattle.transcript.specs.Forms as form
use Rattle.transcript.specs.Laws.{OneFormIsHad}
use Rattle.transcript.specs.declared.command.When.{When}
use Rattle.transcript.specs.declared.command.When.TheVariants.{Front, At, Pinned}
use Rattle.transcript.proofs.FormLemmas.{word_once, spaced, decimal_clean, timestamp_small, same_kind, IsAlike, alike}

-- two timestamps, and what is behind them
pub when_once : (v w : When) (x y : List ℕ) → IsWhen v → IsWhen w → length (when_words v) ≡ length (when_words w) →
    spaced_out (when_words v) ++ x ≡ spaced_out (when_words w) ++ y → (v ≡ w) × (x ≡ y)
when_once Front Front x y p q len eq = (refl, eq)
when_once Pinned Pinned x y p q len eq = (refl, append_cancel_left (codes "pinned ") x y eq)
when_once (At t) (At u) x y p q len eq =
    let cut : ((decimal t ++ 0x20 ∷ []) ++ []) ++ x ≡ ((decimal u ++ 0x20 ∷ []) ++ []) ++ y =
    append_cancel_left (codes "at ") (((decimal t ++ 0x20 ∷ []) ++ []) ++ x)
    (((decimal u ++ 0x20 ∷ []) ++ []) ++ y) eq in
    let same = word_once (decimal t) (decimal u) x y (decimal_clean t (timestamp_small t p))
    (decimal_clean u (timestamp_small u q)) (sym (spaced (decimal t) x) ∙ (cut ∙ spaced (decimal u) y)) in
    let ts : t ≡ u = decimal_injective t u (timestamp_small t p) (timestamp_small u q) same.0 in
    (ap At ts, same.1)
when_once v w x y p q len eq = absurd (omega (arith, len))

-- forms with the same parts that a line has both
same_alike : (line : List ℕ) (a b : Form) → HasForm line a → HasForm line b → IsAlike a b → a ≡ b
same_alike line (form.put uri json) b p q (u, j, is) =
    let hb : HasForm line (form.put u j) = subst (HasForm line) is q in
    let cut = append_cancel_left (codes "put ") (((uri ++ 0x20 ∷ []) ++ []) ++ json) (((u ++ 0x20 ∷ []) ++ []) ++ j)
    (sym p.fits.1 ∙ hb.fits.1) in
    let same = word_once uri u json j p.fits.0.1 hb.fits.0.1 (sym (spaced uri json) ∙ (cut ∙ spaced u j)) in
    let us : uri ≡ u = same.0 in
    let js : json ≡ j = same.1 in
    cc
same_alike line (form.remove uri) b p q (u, is) =
    let hb : HasForm line (form.remove u) = subst (HasForm line) is q in
    ap form.remove (append_cancel_left (codes "remove ") uri u (sym p.fits.1 ∙ hb.fits.1)) ∙ sym is
same_alike line (form.commit json) b p q (j, is) =
    let hb : HasForm line (form.commit j) = subst (HasForm line) is q in
    ap form.commit (append_cancel_left (codes "commit ") json j (sym p.fits.1 ∙ hb.fits.1)) ∙ sym is
same_alike line (form.get when uri) b p q (w, u, is) =
    let hb : HasForm line (form.get w u) = subst (HasForm line) is q in
    let len : length (when_words when) ≡ length (when_words w) =
    omega (arith, p.most (form.get w u) hb.fits, hb.most (form.get when uri) p.fits) in
    let same = when_once when w uri u p.fits.0.0 hb.fits.0.0 len
    (append_cancel_left (codes "get ") (spaced_out (when_words when) ++ uri) (spaced_out (when_words w) ++ u)
    (sym p.fits.1 ∙ hb.fits.1)) in
    let ws : when ≡ w = same.0 in
    let us : uri ≡ u = same.1 in
    cc
same_alike line (form.search when json) b p q (w, j, is) =
    let hb : HasForm line (form.search w j) = subst (HasForm line) is q in
    let len : length (when_words when) ≡ length (when_words w) =
    omega (arith, p.most (form.search w j) hb.fits, hb.most (form.search when json) p.fits) in
    let same = when_once when w json j p.fits.0 hb.fits.0 len
    (append_cancel_left (codes "search ") (spaced_out (when_words when) ++ json) (spaced_out (when_words w) ++ j)
    (sym p.fits.1 ∙ hb.fits.1)) in
    let ws : when ≡ w = same.0 in
    let js : json ≡ j = same.1 in
    cc
same_alike line (form.estimate when json) b p q (w, j, is) =
    let hb : HasForm line (form.estimate w j) = subst (HasForm line) is q in
    let len : length (when_words when) ≡ length (when_words w) =
    omega (arith, p.most (form.estimate w j) hb.fits, hb.most (form.estimate when json) p.fits) in
    let same = when_once when w json j p.fits.0 hb.fits.0 len
    (append_cancel_left (codes "estimate ") (spaced_out (when_words when) ++ json)
    (spaced_out (when_words w) ++ j) (sym p.fits.1 ∙ hb.fits.1)) in
    let ws : when ≡ w = same.0 in
    let js : json ≡ j = same.1 in
    cc
same_alike line form.stamp b p q is = sym is
same_alike line (form.forget to) b p q (t, is) =
    let hb : HasForm line (form.forget t) = subst (HasForm line) is q in
    let digits = append_cancel_left (codes "forget ") (decimal to) (decimal t) (sym p.fits.1 ∙ hb.fits.1) in
    ap form.forget (decimal_injective to t (timestamp_small to p.fits.0) (timestamp_small t hb.fits.0) digits)
    ∙ sym is
same_alike line form.pin b p q is = sym is
same_alike line form.unpin b p q is = sym is
same_alike line form.save b p q is = sym is
same_alike line form.merge b p q is = sym is
same_alike line form.revive b p q is = sym is
same_alike line form.quit b p q is = sym is

pub one_form_is_had : OneFormIsHad
one_form_is_had line a b p q = same_alike line a b p q (alike a b (same_kind line a b p.fits q.fits))

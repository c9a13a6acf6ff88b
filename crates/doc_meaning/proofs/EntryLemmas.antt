-- One more entry behind others.
use Rattle.std.proofs.Common.{◌≡◌, ℕ, ◌+◌, List, [], ◌∷◌, ◌++◌, length, refl, subst, arith}
use Rattle.doc_model.specs.declared.entry.Entry.{Entry}
use Rattle.doc_model.specs.declared.entry.Entry.TheVariants.{Commit, Forget}
use Rattle.doc_meaning.specs.History.{AreEntries, merge_after}

pub merge_after_push : (low : ℕ) (es : List Entry) (e : Entry) →
    merge_after low (es ++ e ∷ []) ≡ merge_after (merge_after low es) (e ∷ [])
merge_after_push low [] e = refl
merge_after_push low (Commit ops ∷ es) e = merge_after_push low es e
merge_after_push low (Forget to ∷ es) e = merge_after_push to es e

-- one more entry keeps the rules
pub rules_push : (at low : ℕ) (es : List Entry) (e : Entry) → AreEntries at low es →
    AreEntries (at + length es) (merge_after low es) (e ∷ []) → AreEntries at low (es ++ e ∷ [])
rules_push at low [] e are more =
    let there : at + 0 ≡ at = omega arith in subst (λ n. AreEntries n low (e ∷ [])) there more
rules_push at low (Commit ops ∷ es) e are more =
    let there : at + length (Commit ops ∷ es) ≡ at + 1 + length es = omega arith in
    let further = subst (λ n. AreEntries n (merge_after low es) (e ∷ [])) there more in
    (are.0, are.1, rules_push (at + 1) low es e are.2 further)
rules_push at low (Forget to ∷ es) e are more =
    let there : at + length (Forget to ∷ es) ≡ at + 1 + length es = omega arith in
    let further = subst (λ n. AreEntries n (merge_after to es) (e ∷ [])) there more in
    (are.0, are.1, rules_push (at + 1) to es e are.2 further)

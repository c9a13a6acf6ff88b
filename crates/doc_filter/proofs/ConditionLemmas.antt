-- What a condition says, by its form.
use Rattle.std.proofs.Common.{◌≡◌, ℕ, Bool, List, [], ◌∷◌, map, flat_map, refl, sym, ap, ◌∙◌}
use Rattle.std.proofs.lemmas.List.Folds.{flat_map-map, list_all-map}
use Rattle.std.specs.List.{list_any, list_all}
use Rattle.doc_model.specs.Documents.{PlainDocument}
use Rattle.doc_meaning.specs.declared.meaning.Meaning.{Meaning}
use Rattle.doc_meaning.specs.Near.{is_near}
use Rattle.doc_meaning.proofs.AnyLemmas.{any-map}
use Rattle.doc_filter.specs.declared.condition.Condition.{Condition}
use Rattle.doc_filter.specs.declared.condition.Condition.TheFolds.{fold-roll-Condition}
use Rattle.doc_filter.specs.declared.condition.Condition.TheOpen.{Condition-F}
use Rattle.doc_filter.specs.declared.condition.Condition.TheVariants as condition
use Rattle.doc_filter.specs.Conditions.{condition_meaning, condition_step, is_met}

map-map : {A B C : Type 0} (f : B → C) (g : A → B) (xs : List A) → map f (map g xs) ≡ map (λ x. f (g x)) xs
map-map f g [] = refl
map-map f g (x ∷ xs) = ap (λ ys. f (g x) ∷ ys) (map-map f g xs)

module _ (c : Condition) (d : PlainDocument) where
  pub met_and : (children : List Condition) → c ≡ condition.And children →
      is_met c d ≡ list_all (λ p. is_met p d) children
  met_and children is =
      ap (λ p. is_met p d) (is ∙ sym (condition.rolls-And children))
      ∙ ap (λ m. m.holds) (fold-roll-Condition Meaning (condition_step d) (Condition-F.And children))
      ∙ list_all-map (λ m. m.holds) (condition_meaning d) children

  pub met_or : (children : List Condition) → c ≡ condition.Or children →
      is_met c d ≡ list_any (λ p. is_met p d) children
  met_or children is =
      ap (λ p. is_met p d) (is ∙ sym (condition.rolls-Or children))
      ∙ ap (λ m. m.holds) (fold-roll-Condition Meaning (condition_step d) (Condition-F.Or children))
      ∙ any-map (λ m. m.holds) (condition_meaning d) children

  pub met_near : (children : List Condition) (distance : ℕ) (ordered : Bool) →
      c ≡ condition.Near children distance ordered →
      is_met c d ≡ is_near distance ordered (map (λ p. (condition_meaning d p).starts) children)
  met_near children distance ordered is =
      ap (λ p. is_met p d) (is ∙ sym (condition.rolls-Near children distance ordered))
      ∙ ap (λ m. m.holds)
      (fold-roll-Condition Meaning (condition_step d) (Condition-F.Near children distance ordered))
      ∙ ap (is_near distance ordered) (map-map (λ m. m.starts) (condition_meaning d) children)

  pub starts_or : (children : List Condition) → c ≡ condition.Or children →
      (condition_meaning d c).starts ≡ flat_map (λ p. (condition_meaning d p).starts) children
  starts_or children is =
      ap (λ p. (condition_meaning d p).starts) (is ∙ sym (condition.rolls-Or children))
      ∙ ap (λ m. m.starts) (fold-roll-Condition Meaning (condition_step d) (Condition-F.Or children))
      ∙ flat_map-map (λ m. m.starts) (condition_meaning d) children

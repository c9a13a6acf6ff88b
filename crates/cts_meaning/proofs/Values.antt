-- A member's value holds one thing.
use Rattle.std.proofs.Common.{◌≡◌, ℕ, pos, ◌*◌, ◌^◌, ◌<◌, inl, inr, Bool, true, false, cond, eqb, List, [], ◌∷◌, map, Option, Some, None, refl, sym, ap, ◌∙◌, eq-eqb, ne_eqb, arith}
use Rattle.std.proofs.lemmas.Bool.{cond-false, cond-true}
use Rattle.std.specs.Prelude.{codes}
use Rattle.std.specs.Str.{bytes_eq}
use Rattle.doc_model.specs.declared.node.Node.{Node}
use Rattle.doc_model.specs.declared.node.Node.TheVariants as node
use Rattle.doc_model.specs.declared.query.Compare.{Compare}
use Rattle.doc_model.specs.declared.scalar.Scalar.{Scalar}
use Rattle.cts_meaning.specs.Saying.{AreOptions, AreScalars, AreTexts, AreValuesOf, IsCompare, IsDepth, IsDistance, depth_text}
use Rattle.cts_meaning.specs.Shapes.{compare_text, scalar_node, whole}
use Rattle.cts_meaning.proofs.Named.{same_compare, same_some}
use Rattle.cts_meaning.proofs.Nodes.{items_in, items_in_array, number_in, number_in_number, sort_items, sort_of, sort_text, text_in, text_in_string}
use Rattle.cts_meaning.proofs.Wholes.{same_whole}
use Rattle.cts_meaning.proofs.Scalars.{scalar_in, scalar_in_scalar, scalar_sort}

module _ {A : Type 0} (spelled : A → Node) (back : Node → A) (again : (a : A) → back (spelled a) ≡ a)
    (alone : (a : A) → sort_of (spelled a) < 4) where
  map_again : (values : List A) → map back (map spelled values) ≡ values
  map_again [] = refl
  map_again (value ∷ values) =
      ap (λ (a : A). a ∷ map back (map spelled values)) (again value)
      ∙ ap (λ (others : List A). value ∷ others) (map_again values)

  abbrev read : Option Node → List A
  read None = []
  read (Some n) = cond (eqb (sort_of n) 4) (map back (items_in n)) (back n ∷ [])

  read_alone : (value : A) → read (Some (spelled value)) ≡ value ∷ []
  read_alone value =
      let n = spelled value in
      cond-false (eqb (sort_of n) 4) (map back (items_in n)) (back n ∷ [])
      (ne_eqb (sort_of n) 4 (λ e. omega (arith, e, alone value)))
      ∙ ap (λ (a : A). a ∷ []) (again value)

  read_array : (values : List A) → read (Some (node.Items (map spelled values))) ≡ values
  read_array values =
      let n = node.Items (map spelled values) in
      cond-true (eqb (sort_of n) 4) (map back (items_in n)) (back n ∷ [])
      (eq-eqb (sort_of n) 4 (sort_items (map spelled values)))
      ∙ ap (map back) (items_in_array (map spelled values)) ∙ map_again values

  values_are : (found : Option Node) (values : List A) → AreValuesOf spelled found values → read found ≡ values
  values_are found values (inl (value, is, only)) = ap read is ∙ read_alone value ∙ sym only
  values_are found values (inr is) = ap read is ∙ read_array values

  one_values : (found : Option Node) (values others : List A) → AreValuesOf spelled found values →
      AreValuesOf spelled found others → values ≡ others
  one_values found values others are also =
      sym (values_are found values are) ∙ values_are found others also

  pub same_list : (values others : List A) → map spelled values ≡ map spelled others → values ≡ others
  same_list values others e = sym (map_again values) ∙ ap (map back) e ∙ map_again others

text_alone : (text : List ℕ) → sort_of (node.Text text) < 4
text_alone text = omega (arith, sort_text text)

pub one_texts : (found : Option Node) (texts others : List (List ℕ)) → AreTexts found texts → AreTexts found others →
    texts ≡ others
one_texts found texts others are also =
    one_values node.Text text_in text_in_string text_alone found texts others are also

pub one_scalars : (found : Option Node) (values others : List Scalar) → AreScalars found values →
    AreScalars found others → values ≡ others
one_scalars found values others are also =
    one_values scalar_node scalar_in scalar_in_scalar scalar_sort found values others are also

pub one_options : (found : Option Node) (given others : List (List ℕ)) → AreOptions found given →
    AreOptions found others → given ≡ others
one_options None given others are also = are ∙ sym also
one_options (Some n) given others are also =
    same_list node.Text text_in text_in_string text_alone given others
    (sym (items_in_array (map node.Text given)) ∙ ap items_in (sym are ∙ also) ∙ items_in_array (map node.Text others))

same_distance : (k m : ℕ) → whole k ≡ whole m → k ≡ m
same_distance k m e =
    let same = same_whole m (k * 10 ^ 18)
    (sym (number_in_number (pos (k * 10 ^ 18))) ∙ ap number_in e ∙ number_in_number (pos (m * 10 ^ 18))) in
    omega (arith, same)

pub one_distance : (found : Option Node) (k m : ℕ) → IsDistance found k → IsDistance found m → k ≡ m
one_distance None k m is also = is ∙ sym also
one_distance (Some n) k m is also = same_distance k m (sym is ∙ also)

abbrev is_far : List ℕ → Bool
is_far text = bytes_eq text (codes "infinity")

far_again : (infinite : Bool) → is_far (depth_text infinite) ≡ infinite
far_again true = refl
far_again false = refl

same_string : (s t : List ℕ) → node.Text s ≡ node.Text t → s ≡ t
same_string s t e = sym (text_in_string s) ∙ ap text_in e ∙ text_in_string t

pub one_depth : (found : Option Node) (far also_far : Bool) → IsDepth found far → IsDepth found also_far →
    far ≡ also_far
one_depth None far also_far is also = is ∙ sym also
one_depth (Some n) far also_far is also =
    sym (far_again far) ∙ ap is_far (same_string (depth_text far) (depth_text also_far) (sym is ∙ also))
    ∙ far_again also_far

pub one_compare : (found : Option Node) (op other : Compare) → IsCompare found op → IsCompare found other → op ≡ other
one_compare found op other is also =
    same_compare op other (same_string (compare_text op) (compare_text other)
    (same_some (node.Text (compare_text op)) (node.Text (compare_text other)) (sym is ∙ also)))

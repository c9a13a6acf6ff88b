-- Values of a query in the forms in which they are compared.
use Rattle.std.proofs.Common.{◌≡◌, ℕ, ℤ, ◌+◌, ◌<◌, ◌++◌, ◌||◌, Bool, true, false, List, [], ◌∷◌, length, get_or, take}
use Rattle.std.proofs.Common.{refl, sym, ap, ◌∙◌}
use Rattle.std.proofs.lemmas.List.Folds.{list_any-append, list_any_more}
use Rattle.std.specs.Cmp.Lexicographic.{pointwise}
use Rattle.std.specs.List.{list_any}
use Rattle.std.specs.Str.{bytes_eq}
use Rattle.doc_model.specs.declared.query.Case.{Case}
use Rattle.doc_model.specs.declared.scalar.Scalar.{Scalar}
use Rattle.doc_model.specs.declared.scalar.Scalar.TheVariants as scalar
use Rattle.doc_meaning.specs.Strings.{words_seen}
use Rattle.doc_meaning.specs.Values.{scalar_equals}
use Rattle.doc_filter.specs.declared.scalar_test.ScalarTest.TheVariants.{Equal}
use Rattle.doc_filter.specs.declared.values.Values.{Values}
use Rattle.doc_filter.specs.Phrases.{phrase_of}
use Rattle.doc_filter.specs.Scalars.{AreValues, are_among, equals, equals_some_text, equals_text, passes}
use Rattle.doc_filter.specs.Scalars.{with_phrase, with_scalar, with_value}

or_false : (b : Bool) → b ≡ (b || false)
or_false true = refl
or_false false = refl

or_last : (a w e : Bool) → ((a || e) || w) ≡ ((a || w) || e)
or_last true w e = refl
or_last false true true = refl
or_last false true false = refl
or_last false false true = refl
or_last false false false = refl

or_folded : (a p f x : Bool) → (a || (p || (f || x))) ≡ ((a || (p || f)) || x)
or_folded true p f x = refl
or_folded false true f x = refl
or_folded false false f x = refl

or_plain : (a p f x : Bool) → (a || ((p || x) || f)) ≡ ((a || (p || f)) || x)
or_plain true p f x = refl
or_plain false p f x = or_last p f x

any_push : {A : Type 0} (p : A → Bool) (xs : List A) (x : A) → list_any p (xs ++ x ∷ []) ≡ (list_any p xs || p x)
any_push p xs x = list_any-append p xs (x ∷ []) ∙ ap (λ b. list_any p xs || b) (sym (or_false (p x)))

-- case counts only where texts are compared by their words
exact_same : (case : Case) (v g : Scalar) → equals v g ≡ scalar_equals case true v g
exact_same case scalar.Null scalar.Null = refl
exact_same case (scalar.Bool a) (scalar.Bool b) = refl
exact_same case (scalar.Num a) (scalar.Num b) = refl
exact_same case (scalar.Text a) (scalar.Text b) = refl
exact_same case v g = refl

null_same : (case : Case) (v : Scalar) → equals v scalar.Null ≡ scalar_equals case false v scalar.Null
null_same case scalar.Null = refl
null_same case v = refl

bool_same : (case : Case) (b : Bool) (v : Scalar) → equals v (scalar.Bool b) ≡ scalar_equals case false v (scalar.Bool b)
bool_same case b (scalar.Bool a) = refl
bool_same case b v = refl

num_same : (case : Case) (n : ℤ) (v : Scalar) → equals v (scalar.Num n) ≡ scalar_equals case false v (scalar.Num n)
num_same case n (scalar.Num m) = refl
num_same case n v = refl

-- a value that is compared by type and value
scalar_adds : (values : Values) (g v : Scalar) →
    passes (Equal (with_scalar values g)) v ≡ (passes (Equal values) v || equals v g)
scalar_adds values g scalar.Null = any_push (equals scalar.Null) values.scalars g
scalar_adds values g (scalar.Bool b) = any_push (equals (scalar.Bool b)) values.scalars g
scalar_adds values g (scalar.Num n) = any_push (equals (scalar.Num n)) values.scalars g
scalar_adds values g (scalar.Text t) =
    let by_words : Bool =
    are_among values.plain (words_seen false t) || are_among values.folded (words_seen true t) in
    ap (λ b. b || by_words) (any_push (equals_text t) values.scalars g)
    ∙ or_last (list_any (equals_text t) values.scalars) by_words (equals_text t g)

module _ (values : Values) (words : List (List ℕ)) where
  abbrev one_form : Bool → Values
  one_form any_case = with_phrase values (record { any_case = any_case; words = words })

  words_add : (any_case : Bool) (t : List ℕ) →
      equals_some_text (one_form any_case) t
      ≡ (equals_some_text values t || pointwise bytes_eq (words_seen any_case t) words)
  words_add true t =
      ap (λ b. list_any (equals_text t) values.scalars || (are_among values.plain (words_seen false t) || b))
      (any_push (λ ws. pointwise bytes_eq (words_seen true t) ws) values.folded words)
      ∙ or_folded (list_any (equals_text t) values.scalars) (are_among values.plain (words_seen false t))
      (are_among values.folded (words_seen true t)) (pointwise bytes_eq (words_seen true t) words)
  words_add false t =
      ap (λ b. list_any (equals_text t) values.scalars || (b || are_among values.folded (words_seen true t)))
      (any_push (λ ws. pointwise bytes_eq (words_seen false t) ws) values.plain words)
      ∙ or_plain (list_any (equals_text t) values.scalars) (are_among values.plain (words_seen false t))
      (are_among values.folded (words_seen true t)) (pointwise bytes_eq (words_seen false t) words)

  scalars_stay : (test : Scalar → Bool) (any_case : Bool) →
      list_any test (one_form any_case).scalars ≡ (list_any test values.scalars || false)
  scalars_stay test true = or_false (list_any test values.scalars)
  scalars_stay test false = or_false (list_any test values.scalars)

phrase_adds : (case : Case) (values : Values) (text : List ℕ) (v : Scalar) →
    passes (Equal (with_phrase values (phrase_of case text))) v
    ≡ (passes (Equal values) v || scalar_equals case false v (scalar.Text text))
phrase_adds case values text scalar.Null =
    scalars_stay values (phrase_of case text).words (equals scalar.Null) (phrase_of case text).any_case
phrase_adds case values text (scalar.Bool b) =
    scalars_stay values (phrase_of case text).words (equals (scalar.Bool b)) (phrase_of case text).any_case
phrase_adds case values text (scalar.Num n) =
    scalars_stay values (phrase_of case text).words (equals (scalar.Num n)) (phrase_of case text).any_case
phrase_adds case values text (scalar.Text t) =
    words_add values (phrase_of case text).words (phrase_of case text).any_case t

-- one more value is equalled too
value_adds : (case : Case) (exact : Bool) (values : Values) (g v : Scalar) →
    passes (Equal (with_value case exact values g)) v ≡ (passes (Equal values) v || scalar_equals case exact v g)
value_adds case true values g v =
    scalar_adds values g v ∙ ap (λ b. passes (Equal values) v || b) (exact_same case v g)
value_adds case false values scalar.Null v =
    scalar_adds values scalar.Null v ∙ ap (λ b. passes (Equal values) v || b) (null_same case v)
value_adds case false values (scalar.Bool b) v =
    scalar_adds values (scalar.Bool b) v ∙ ap (λ b. passes (Equal values) v || b) (bool_same case b v)
value_adds case false values (scalar.Num n) v =
    scalar_adds values (scalar.Num n) v ∙ ap (λ b. passes (Equal values) v || b) (num_same case n v)
value_adds case false values (scalar.Text text) v = phrase_adds case values text v

-- a step of a loop that adds one value after another
pub values_more : (made grown : Values) (case : Case) (exact : Bool) (values : List Scalar) (i : ℕ) (g : Scalar) →
    i < length values → g ≡ get_or values i g → grown ≡ with_value case exact made g →
    AreValues made case exact (take i values) → AreValues grown case exact (take (i + 1) values)
values_more made grown case exact values i g lt is added held v =
    ap (λ vs. passes (Equal vs) v) added
    ∙ value_adds case exact made g v
    ∙ ap (λ b. b || scalar_equals case exact v g) (held v)
    ∙ ap (λ x. list_any (scalar_equals case exact v) (take i values) || scalar_equals case exact v x) is
    ∙ sym (list_any_more (scalar_equals case exact v) values i g lt)

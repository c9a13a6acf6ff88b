-- Whether a scalar of a tree passes against the values of a query.
use Rattle.std.specs.Prelude.{ℕ, ◌≡◌, Bool, true, false, ◌&&◌, ◌||◌, List, [], ◌∷◌, ◌++◌, Some, if◌then◌else◌}
use Rattle.std.specs.Cmp.Lexicographic.{pointwise}
use Rattle.std.specs.List.{list_any}
use Rattle.std.specs.Str.{bytes_eq}
use Rattle.doc_model.specs.declared.query.Case.{Case}
use Rattle.doc_model.specs.declared.query.Case.TheVariants as case
use Rattle.doc_model.specs.declared.query.Compare.{Compare}
use Rattle.doc_model.specs.declared.scalar.Scalar.{Scalar}
use Rattle.doc_model.specs.declared.scalar.Scalar.TheVariants as scalar
use Rattle.doc_meaning.specs.Strings.{Property, is_named, words_seen}
use Rattle.doc_meaning.specs.Values.{scalar_equals, in_range}
use Rattle.doc_filter.specs.declared.phrase.Phrase.{Phrase}
use Rattle.doc_filter.specs.declared.scalar_test.ScalarTest.{ScalarTest}
use Rattle.doc_filter.specs.declared.scalar_test.ScalarTest.TheVariants.{Equal, Range}
use Rattle.doc_filter.specs.declared.values.Values.{Values}
use Rattle.doc_filter.specs.Phrases.{phrase_of}

-- by type and value, texts as strings
abbrev pub equals : Scalar → Scalar → Bool
equals found wanted = scalar_equals case.Auto true found wanted

-- the same of a text
abbrev pub equals_text : List ℕ → Scalar → Bool
equals_text found wanted = equals (scalar.Text found) wanted

-- a text of a document compares so with a value
abbrev pub text_in_range : Compare → List ℕ → Scalar → Bool
text_in_range op found wanted = in_range op (scalar.Text found) wanted

-- the words are one of the lists
abbrev pub are_among : List (List (List ℕ)) → List (List ℕ) → Bool
are_among wanted seen = list_any (λ words. pointwise bytes_eq seen words) wanted

-- a text equals some value, as a string or by its words
abbrev pub equals_some_text : Values → List ℕ → Bool
equals_some_text values found =
    list_any (equals_text found) values.scalars
    || (are_among values.plain (words_seen false found) || are_among values.folded (words_seen true found))

-- a scalar passes against some value that isn't compared by its words
abbrev pub passes_plainly : ScalarTest → Scalar → Bool
passes_plainly (Equal values) found = list_any (equals found) values.scalars
passes_plainly (Range op wanted) found = list_any (in_range op found) wanted

-- a text passes
abbrev pub passes_text : ScalarTest → List ℕ → Bool
passes_text (Equal values) found = equals_some_text values found
passes_text (Range op wanted) found = list_any (text_in_range op found) wanted

-- a scalar passes
abbrev pub passes : ScalarTest → Scalar → Bool
passes test scalar.Null = passes_plainly test scalar.Null
passes test (scalar.Bool b) = passes_plainly test (scalar.Bool b)
passes test (scalar.Num n) = passes_plainly test (scalar.Num n)
passes test (scalar.Text text) = passes_text test text

-- some scalar of the named properties passes
abbrev pub some_named : List (List ℕ) → (Scalar → Bool) → List (Property × Scalar) → Bool
some_named names test found = list_any (λ s. is_named (Some names) s.0 && test s.1) found

-- one more value that is compared by type and value
abbrev pub with_scalar : Values → Scalar → Values
with_scalar values value =
    record { scalars = values.scalars ++ value ∷ []; plain = values.plain; folded = values.folded }

-- one more text that is compared by its words
abbrev pub with_phrase : Values → Phrase → Values
with_phrase values phrase =
    if phrase.any_case
    then record { scalars = values.scalars; plain = values.plain; folded = values.folded ++ phrase.words ∷ [] }
    else record { scalars = values.scalars; plain = values.plain ++ phrase.words ∷ []; folded = values.folded }

-- one more value in the form in which it is compared
abbrev pub with_value : Case → Bool → Values → Scalar → Values
with_value case true values value = with_scalar values value
with_value case false values scalar.Null = with_scalar values scalar.Null
with_value case false values (scalar.Bool b) = with_scalar values (scalar.Bool b)
with_value case false values (scalar.Num n) = with_scalar values (scalar.Num n)
with_value case false values (scalar.Text text) = with_phrase values (phrase_of case text)

-- a scalar equals some of these where it equals some of those
abbrev pub AreValues : Values → Case → Bool → List Scalar → Type 0
AreValues made case exact values =
    (found : Scalar) → passes (Equal made) found ≡ list_any (scalar_equals case exact found) values

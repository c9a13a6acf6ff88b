-- The words of a text (Unicode: General_Category of section 4.5, default case folding of section 3.13).
use Rattle.std.specs.Prelude.{ℕ, ◌+◌, Bool, true, false, ◌||◌, ◌==◌, List, [], ◌∷◌, map, slice_range, chars, encode_utf8_all, if◌then◌else◌}
use Rattle.std.specs.Char.{len_utf8}
use Rattle.std.specs.List.{list_any}
use Rattle.ucd_category.specs.GeneralCategory.{general_category}
use Rattle.ucd_category.specs.GeneralCategoryGroup.{in_group}
use Rattle.ucd_category.specs.declared.GeneralCategory.{GeneralCategory}
use Rattle.ucd_category.specs.declared.GeneralCategory.TheVariants.{UppercaseLetter, TitlecaseLetter}
use Rattle.ucd_category.specs.declared.GeneralCategoryGroup.TheVariants.{Letter, Mark, Number}
use Rattle.caseless.specs.Caseless.{default_case_fold}

-- the General_Category is a Letter, a Mark or a Number
abbrev pub is_word_category : GeneralCategory → Bool
is_word_category value = in_group Letter value || in_group Mark value || in_group Number value

-- words are made of it
unfoldable pub is_word_char : ℕ → Bool
is_word_char c = is_word_category (general_category c)

-- a span of bytes: where it begins, and where it ends
abbrev pub Span : Type 0
Span = ℕ × ℕ

-- a word character from the byte `from` to the byte `to`, before the words behind it: it is part of a word that begins at `to`
abbrev pub joined : ℕ → ℕ → List Span → List Span
joined from to [] = (from, to) ∷ []
joined from to (span ∷ spans) = if to == span.0 then (from, span.1) ∷ spans else (from, to) ∷ span ∷ spans

-- the maximal runs of word characters, where the characters begin at the byte `at`
abbrev pub spans : ℕ → List ℕ → List Span
spans at [] = []
spans at (c ∷ cs) =
    let next = at + len_utf8 c in
    if is_word_char c then joined at next (spans next cs) else spans next cs

-- the words of a text: its maximal runs of word characters
unfoldable pub words : List ℕ → List Span
words text = spans 0 (chars text)

-- the words as they are written
unfoldable pub plain : List ℕ → List (List ℕ)
plain text = map (λ span. slice_range text span.0 span.1) (words text)

-- the full default case folding of a text
unfoldable pub fold_case : List ℕ → List ℕ
fold_case text = encode_utf8_all (default_case_fold (chars text))

-- the words, case folded
unfoldable pub folded : List ℕ → List (List ℕ)
folded text = map fold_case (plain text)

-- the General_Category is Lu or Lt
abbrev pub is_capital : GeneralCategory → Bool
is_capital UppercaseLetter = true
is_capital TitlecaseLetter = true
is_capital _ = false

-- the text has a capital
unfoldable pub has_capital : List ℕ → Bool
has_capital text = list_any (λ c. is_capital (general_category c)) (chars text)

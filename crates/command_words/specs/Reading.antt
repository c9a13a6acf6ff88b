-- What the functions that read words find.
use Rattle.std.specs.Prelude.{ℕ, Bool, ◌≡◌, ◌≢◌, ◌⊎◌, ◌≤◌, IsTrue, String, List, [], ◌∷◌, ◌++◌, All, Option, Some, None, Result, OnOk, OnErr, MatchOption, IsSome, codes, length, map, string_bytes}
use Rattle.std.specs.List.{flat_map, list_any}
use Rattle.std.specs.declared.alloc.Global.{Global}
use Rattle.doc_model.specs.Queries.{Index, index_eq, is_index_list, is_indexed}
use Rattle.doc_model.specs.declared.settings.Settings.{Settings}
use Rattle.command_words.specs.Asked.{IsName, IsNumber, Settle, index_of, range_text}
use Rattle.command_words.specs.Words.{AreUses, Ends, HasNoDash, IsUse, IsWord, Use, apart, joined, word, merge_value, places, range_value, save_value, spelled, values, words_of}
use Rattle.command_words.specs.declared.ranges.Range.{Range}
use Rattle.command_words.specs.declared.reading.Reading.{Reading}
use Rattle.command_words.specs.declared.uses.Argument.{Argument}
use Rattle.command_words.specs.declared.uses.Argument.TheVariants as argument
use Rattle.command_words.specs.declared.uses.Setting.{Setting}
use denote.Ref.{Bor}

-- what follows the head; none of a word that doesn't begin so
abbrev pub FindsRest : List ℕ → List ℕ → Option (Bor (List ℕ)) → Type 0
FindsRest bytes head found =
    MatchOption found ((rest : List ℕ) → bytes ≢ head ++ rest) (λ rest. bytes ≡ head ++ rest.now)

-- what comes before the tail; none of a word that doesn't end so
abbrev pub FindsFront : List ℕ → List ℕ → Option (Bor (List ℕ)) → Type 0
FindsFront bytes tail found =
    MatchOption found ((front : List ℕ) → bytes ≢ front ++ tail) (λ front. bytes ≡ front.now ++ tail)

-- the option that a word begins with, and what follows in the word
abbrev pub FindsSetting : List ℕ → Option (Setting × Bor (List ℕ)) → Type 0
FindsSetting bytes found =
    MatchOption found ((setting : Setting) (tail : List ℕ) → bytes ≢ spelled setting ++ tail)
    (λ x. bytes ≡ spelled x.0 ++ x.1.now)

-- the argument is what the use gives
abbrev pub IsOf : Argument → Use → Type 0
IsOf (argument.Word text) (word text') = text.now ≡ text'
IsOf (argument.Word text) (apart setting value) = ⊥
IsOf (argument.Word text) (joined setting value) = ⊥
IsOf (argument.Given setting value) (word text) = ⊥
IsOf (argument.Given setting value) (apart setting' value') = (setting ≡ setting') × (value.now ≡ value')
IsOf (argument.Given setting value) (joined setting' value') = (setting ≡ setting') × (value.now ≡ value')

-- the words begin with a use that gives this, and these follow it
pub record IsFirst (words : List (List ℕ)) (taken : Argument) (rest : List (List ℕ)) : Type 0 where
  pub found : Use
  pub is_use : IsUse found
  pub of : IsOf taken found
  pub written : words ≡ words_of found ++ rest

-- the words begin with no use
abbrev pub BeginWithoutUse : List (List ℕ) → Type 0
BeginWithoutUse words = (found : Use) (rest : List (List ℕ)) → IsUse found → words ≢ words_of found ++ rest

abbrev pub FindsUse : List (List ℕ) → Option (Argument × Bor (List (String Global))) → Type 0
FindsUse words found =
    MatchOption found (BeginWithoutUse words) (λ x. IsFirst words x.0 (map string_bytes x.1.now))

-- the word of a slot, if it is filled
abbrev pub listed : Option (Bor (List ℕ)) → List (List ℕ)
listed None = []
listed (Some text) = text.now ∷ []

-- the number of a slot is that of the one text
abbrev pub IsFilled : ℕ → ℕ → List (List ℕ) → Option ℕ → Type 0
IsFilled least most texts None = texts ≡ []
IsFilled least most texts (Some n) = (text : List ℕ) × (texts ≡ text ∷ []) × IsNumber least most text n

abbrev pub FindsNumber : ℕ → ℕ → List ℕ → Option ℕ → Type 0
FindsNumber least most text found =
    MatchOption found ((n : ℕ) → IsNumber least most text n → ⊥) (λ n. IsNumber least most text n)

abbrev pub indexes_in : List Range → List Index
indexes_in ranges = map index_of ranges

-- the index is among those
abbrev pub has_range : List Range → Range → Bool
has_range ranges wanted = list_any (λ range. index_eq (index_of wanted) (index_of range)) ranges

-- the index that a word is
abbrev pub FindsRange : List ℕ → Option Range → Type 0
FindsRange text found =
    MatchOption found ((index : Index) → IsName index.0 → text ≢ range_text index)
    (λ range. IsName range.name.now × (text ≡ range_text (index_of range)))

-- a word adds its index
pub record AddsRange (old new : List Index) (text : List ℕ) : Type 0 where
  pub index : Index
  pub name : IsName index.0
  pub written : text ≡ range_text index
  pub added : new ≡ old ++ index ∷ []
  pub distinct : IsTrue (is_index_list old) → IsTrue (is_index_list new)

-- a word is no index, or one that is there already, or one too many
abbrev pub RefusesRange : List Index → List ℕ → Type 0
RefusesRange old text =
    ((index : Index) → IsName index.0 → text ≢ range_text index)
    ⊎ ((index : Index) × (text ≡ range_text index) × IsTrue (is_indexed old index))
    ⊎ (64 ≤ length old)

-- what was read is what these uses give
pub record Holds (reading : Reading) (uses : List Use) : Type 0 where
  pub named : places uses ≡ listed reading.directory
  pub ranges : values range_value uses ≡ map range_text (indexes_in reading.ranges.items)
  pub names : All (λ (index : Index). IsName index.0) (indexes_in reading.ranges.items)
  pub distinct : IsTrue (is_index_list (indexes_in reading.ranges.items))
  pub save : IsFilled 1 1000000 (values save_value uses) reading.save_at
  pub merge : IsFilled 2 64 (values merge_value uses) reading.merge_at

-- a use that gives this is read
abbrev pub Adds : Reading → Reading → Argument → Type 0
Adds old new taken = (found : Use) → IsOf taken found → (uses : List Use) → Holds old uses → Holds new (uses ++ found ∷ [])

-- no uses that go on with one that gives this give anything
abbrev pub Refuses : Reading → Argument → Type 0
Refuses old taken = (found : Use) → IsOf taken found → (uses more : List Use) → Holds old uses
    → (behind : List (List ℕ)) (directory : List ℕ) (settings : Settings)
    → Settle (uses ++ found ∷ more) behind directory settings → ⊥

-- the only word that isn't an option, before the end of the options or after it
abbrev pub FindsOnly : List (List ℕ) → List (List ℕ) → Option (Bor (List ℕ)) → Type 0
FindsOnly before rest found =
    MatchOption found
    ((behind : List (List ℕ)) → Ends rest behind → (text : List ℕ) → before ++ behind ≢ text ∷ [])
    (λ text. (behind : List (List ℕ)) × Ends rest behind × (before ++ behind ≡ text.now ∷ []))

-- the words are those of these uses, which were read, and these follow
pub record ReadsSome (words : List (List ℕ)) (reading : Reading) (rest : List (List ℕ)) : Type 0 where
  pub uses : List Use
  pub each : All IsUse uses
  pub written : words ≡ flat_map words_of uses ++ rest
  pub holds : Holds reading uses

-- all words were read
pub record ReadsAll (words : List (List ℕ)) (reading : Reading) (directory : List ℕ) : Type 0 where
  pub uses : List Use
  pub behind : List (List ℕ)
  pub read : AreUses words uses behind
  pub holds : Holds reading uses
  pub named : places uses ++ behind ≡ directory ∷ []

-- the words give nothing
abbrev pub GiveNothing : List (List ℕ) → Type 0
GiveNothing words = (uses : List Use) (behind : List (List ℕ)) (directory : List ℕ) (settings : Settings)
    → AreUses words uses behind → Settle uses behind directory settings → ⊥

abbrev pub FindsReading : List (List ℕ) → Option (Reading × Bor (List ℕ)) → Type 0
FindsReading words found = MatchOption found (GiveNothing words) (λ x. ReadsAll words x.0 x.1.now)

-- no option was given
abbrev pub IsBare : Reading → Type 0
IsBare reading = (reading.ranges.items ≡ []) × (reading.save_at ≡ None) × (reading.merge_at ≡ None)

-- the number of a slot, or a default
abbrev pub or_default : ℕ → Option ℕ → ℕ
or_default default None = default
or_default default (Some n) = n

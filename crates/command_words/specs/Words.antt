-- How words are read: which of them are options, and which are plain words.
use Rattle.std.specs.Prelude.{ℕ, ◌≡◌, ◌≢◌, ◌⊎◌, ⊤, List, [], ◌∷◌, ◌++◌, All, Some, codes, slice_get}
use Rattle.std.specs.List.{flat_map}
use Rattle.command_words.specs.declared.uses.Setting.{Setting}
use Rattle.command_words.specs.declared.uses.Setting.TheVariants.{MergeAt, Range, SaveAt}

-- how an option is written
abbrev pub spelled : Setting → List ℕ
spelled Range = codes "--range"
spelled SaveAt = codes "--save-at"
spelled MergeAt = codes "--merge-at"

-- a plain word, or an option with its value: the next word, or what follows `=` in its own
pub data Use : Type 0 where
  word : List ℕ → Use
  apart : Setting → List ℕ → Use
  joined : Setting → List ℕ → Use

-- the words of a use
abbrev pub words_of : Use → List (List ℕ)
words_of (word text) = text ∷ []
words_of (apart setting value) = spelled setting ∷ value ∷ []
words_of (joined setting value) = (spelled setting ++ 0x3D ∷ value) ∷ []

-- the word doesn't begin with a dash
abbrev pub HasNoDash : List ℕ → Type 0
HasNoDash text = slice_get text 0 ≢ Some 0x2D

-- a plain word and a value that is a word of its own don't begin with a dash
abbrev pub IsUse : Use → Type 0
IsUse (word text) = HasNoDash text
IsUse (apart setting value) = HasNoDash value
IsUse (joined setting value) = ⊤

-- no more words; or `--`, after which each word is a plain one
abbrev pub Ends : List (List ℕ) → List (List ℕ) → Type 0
Ends rest behind = ((rest ≡ []) × (behind ≡ [])) ⊎ (rest ≡ codes "--" ∷ behind)

-- the words are those of these uses, one after the other, and then these words after `--`
pub record AreUses (words : List (List ℕ)) (uses : List Use) (behind : List (List ℕ)) : Type 0 where
  pub rest : List (List ℕ)
  pub each : All IsUse uses
  pub written : words ≡ flat_map words_of uses ++ rest
  pub ends : Ends rest behind

-- the word of a use that is a plain one
abbrev pub place_of : Use → List (List ℕ)
place_of (word text) = text ∷ []
place_of (apart setting value) = []
place_of (joined setting value) = []

-- the value, if it is one of this option
abbrev pub range_value : Setting → List ℕ → List (List ℕ)
range_value Range value = value ∷ []
range_value SaveAt value = []
range_value MergeAt value = []

abbrev pub save_value : Setting → List ℕ → List (List ℕ)
save_value Range value = []
save_value SaveAt value = value ∷ []
save_value MergeAt value = []

abbrev pub merge_value : Setting → List ℕ → List (List ℕ)
merge_value Range value = []
merge_value SaveAt value = []
merge_value MergeAt value = value ∷ []

-- the values that a use gives, by a function that picks an option's
abbrev pub value_of : (Setting → List ℕ → List (List ℕ)) → Use → List (List ℕ)
value_of pick (word text) = []
value_of pick (apart setting value) = pick setting value
value_of pick (joined setting value) = pick setting value

-- the plain words, in their order
abbrev pub places : List Use → List (List ℕ)
places uses = flat_map place_of uses

-- the values of an option, in their order
abbrev pub values : (Setting → List ℕ → List (List ℕ)) → List Use → List (List ℕ)
values pick uses = flat_map (value_of pick) uses

-- the use is no option
abbrev pub IsWord : Use → Type 0
IsWord (word text) = ⊤
IsWord (apart setting value) = ⊥
IsWord (joined setting value) = ⊥

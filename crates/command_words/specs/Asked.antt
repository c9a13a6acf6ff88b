-- What the words of a run ask.
use Rattle.std.specs.Prelude.{ℕ, ◌≡◌, ◌⊎◌, ◌≤◌, ◌<◌, ◌^◌, IsTrue, List, [], ◌∷◌, ◌++◌, All, Option, Some, None, codes, length, map}
use Rattle.std.specs.Fmt.{decimal}
use Rattle.doc_model.specs.Queries.{Index, is_index_list}
use Rattle.doc_model.specs.declared.indexes.Kind.{Kind}
use Rattle.doc_model.specs.declared.indexes.Kind.TheVariants as kind
use Rattle.doc_model.specs.declared.settings.Settings.{Settings}
use Rattle.command_words.specs.Words.{AreUses, IsWord, Use, merge_value, places, range_value, save_value, values}
use Rattle.command_words.specs.declared.asked.Command.{Command}
use Rattle.command_words.specs.declared.asked.Command.TheVariants as command
use Rattle.command_words.specs.declared.asked.Init.{Init}
use Rattle.command_words.specs.declared.ranges.Range.{Range}

-- how a kind of index is written
abbrev pub kind_text : Kind → List ℕ
kind_text kind.Decimal = codes "decimal"
kind_text kind.Text = codes "string"

-- NAME:TYPE. No type has a colon, so it follows the last one
abbrev pub range_text : Index → List ℕ
range_text index = index.0 ++ 0x3A ∷ kind_text index.1

-- a name isn't empty, and its length fits into the four bytes that a root has for it
abbrev pub IsName : List ℕ → Type 0
IsName name = (0 < length name) × (length name < 2 ^ 32)

-- a decimal number, without sign or leading zeros, within bounds
pub record IsNumber (least most : ℕ) (text : List ℕ) (n : ℕ) : Type 0 where
  pub written : text ≡ decimal n
  pub low : least ≤ n
  pub high : n ≤ most

-- the number that an option gives: its default, where it isn't used; it is used at most once
abbrev pub IsGiven : List (List ℕ) → ℕ → ℕ → ℕ → ℕ → Type 0
IsGiven texts default least most n =
    ((texts ≡ []) × (n ≡ default))
    ⊎ ((text : List ℕ) × (texts ≡ text ∷ []) × IsNumber least most text n)

-- the uses, and the words after `--`, name one directory, and give these settings
pub record Settle (uses : List Use) (behind : List (List ℕ)) (directory : List ℕ) (settings : Settings) : Type 0 where
  pub named : places uses ++ behind ≡ directory ∷ []
  pub ranges : values range_value uses ≡ map range_text settings.indexes
  pub names : All (λ (index : Index). IsName index.0) settings.indexes
  pub distinct : IsTrue (is_index_list settings.indexes)
  pub save : IsGiven (values save_value uses) 10000 1 1000000 settings.save_at
  pub merge : IsGiven (values merge_value uses) 8 2 64 settings.merge_at

-- init DIR [--range NAME:TYPE].. [--save-at N] [--merge-at K]
pub record AsksInit (words : List (List ℕ)) (directory : List ℕ) (settings : Settings) : Type 0 where
  pub others : List (List ℕ)
  pub uses : List Use
  pub behind : List (List ℕ)
  pub command : words ≡ codes "init" ∷ others
  pub read : AreUses others uses behind
  pub settle : Settle uses behind directory settings

-- this command and one directory, without an option
pub record AsksOf (verb : List ℕ) (words : List (List ℕ)) (directory : List ℕ) : Type 0 where
  pub others : List (List ℕ)
  pub uses : List Use
  pub behind : List (List ℕ)
  pub command : words ≡ verb ∷ others
  pub read : AreUses others uses behind
  pub bare : All IsWord uses
  pub named : places uses ++ behind ≡ directory ∷ []

-- run DIR. Named clients aren't served yet, so words that name one don't fit
abbrev pub AsksRun : List (List ℕ) → List ℕ → Type 0
AsksRun = AsksOf (codes "run")

-- check DIR
abbrev pub AsksCheck : List (List ℕ) → List ℕ → Type 0
AsksCheck = AsksOf (codes "check")

-- the words ask nothing
pub record DoNotFit (words : List (List ℕ)) : Type 0 where
  pub init : (directory : List ℕ) (settings : Settings) → AsksInit words directory settings → ⊥
  pub run : (directory : List ℕ) → AsksRun words directory → ⊥
  pub check : (directory : List ℕ) → AsksCheck words directory → ⊥

abbrev pub index_of : Range → Index
index_of range = (range.name.now, range.kind)

-- the settings that the words of `init` give
abbrev pub asked_settings : Init → Settings
asked_settings init =
    record { indexes = map index_of init.ranges.items; save_at = init.save_at; merge_at = init.merge_at }

-- what the words ask, if anything
abbrev pub WordsAsk : List (List ℕ) → Option Command → Type 0
WordsAsk words None = DoNotFit words
WordsAsk words (Some (command.Init init)) = AsksInit words init.directory.now (asked_settings init)
WordsAsk words (Some (command.Run directory)) = AsksRun words directory.now
WordsAsk words (Some (command.Check directory)) = AsksCheck words directory.now

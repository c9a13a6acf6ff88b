-- What is found in a line, by its form.
use Rattle.std.specs.Prelude.{ℕ, ◌≡◌, ◌≢◌, ◌++◌, true, false, List, length, codes, Option, MatchOption}
use Rattle.text_prefixes.specs.Prefixes.{IsLongestPrefix}
use Rattle.transcript.specs.Forms.{Form, Fits, HasForm, IsFormText, IsWord, words_before}
use Rattle.transcript.specs.Forms as form
use Rattle.transcript.specs.Refusals.{is_answered, ComesLater}
use Rattle.transcript.specs.declared.command.When.TheVariants.{Front}
use Rattle.client_lines.specs.declared.form.LineForm.{LineForm}
use Rattle.client_lines.specs.declared.form.LineForm.TheVariants.{Put, Remove, Get, Search, Stamp, Quit, Later}
use denote.Ref.{Bor}

-- a line has a form, and holds this
abbrev pub HasLineForm : List ℕ → LineForm → Type 0
HasLineForm line (Put uri json) = HasForm line (form.put uri.now json.now)
HasLineForm line (Remove uri) = HasForm line (form.remove uri.now)
HasLineForm line (Get uri) = HasForm line (form.get Front uri.now)
HasLineForm line (Search json) = HasForm line (form.search Front json.now)
HasLineForm line Stamp = HasForm line form.stamp
HasLineForm line Quit = HasForm line form.quit
HasLineForm line Later = ComesLater line

-- a line has no form, and its longest prefix that begins a line of some form has this length
abbrev pub IsUnformed : List ℕ → ℕ → Type 0
IsUnformed line place = (IsFormText line → ⊥) × IsLongestPrefix IsFormText line place

-- of a form that isn't answered yet, by how many words it has before the last
abbrev pub IsLaterText : (ℕ → Type 0) → List ℕ → Type 0
IsLaterText HasWords line =
    (f : Form) × Fits line f × (is_answered f ≡ false) × HasWords (length (words_before f))

abbrev pub IsAnsweredText : List ℕ → Type 0
IsAnsweredText line = (f : Form) × Fits line f × (is_answered f ≡ true)

-- a put; none of a line that is none
abbrev pub FindsPut : List ℕ → Option (Bor (List ℕ) × Bor (List ℕ)) → Type 0
FindsPut line found =
    MatchOption found ((uri json : List ℕ) → Fits line (form.put uri json) → ⊥)
    (λ x. Fits line (form.put x.0.now x.1.now))

-- one word behind the head; none of a line that has no such
abbrev pub FindsWord : List ℕ → List ℕ → Option (Bor (List ℕ)) → Type 0
FindsWord line head found =
    MatchOption found ((word : List ℕ) → IsWord word → line ≢ head ++ word)
    (λ word. IsWord word.now × (line ≡ head ++ word.now))

-- of no answered form but a search
pub record LacksCommon (line : List ℕ) : Type 0 where
  pub no_put : (uri json : List ℕ) → Fits line (form.put uri json) → ⊥
  pub no_remove : (uri : List ℕ) → Fits line (form.remove uri) → ⊥
  pub no_get : (uri : List ℕ) → Fits line (form.get Front uri) → ⊥
  pub no_stamp : line ≢ codes "stamp"
  pub no_quit : line ≢ codes "quit"

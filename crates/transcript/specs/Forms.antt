-- The forms of a line: what a line of each holds, and its text.
use Rattle.std.specs.Prelude.{ℕ, ◌≡◌, ◌≢◌, ◌<◌, ◌≤◌, List, [], ◌∷◌, ◌++◌, length, All, codes}
use Rattle.std.specs.Fmt.{decimal}
use Rattle.std.specs.List.{flat_map}
use Rattle.std.specs.Str.{IsUtf8}
use Rattle.doc_meaning.specs.Replies.{last_timestamp}
use Rattle.transcript.specs.declared.command.When.{When}
use Rattle.transcript.specs.declared.command.When.TheVariants.{Front, At, Pinned}

-- what a line holds: a URI, a timestamp, and JSON, which is the rest of the line, even an empty one
pub data Form : Type 0 where
  put : (uri json : List ℕ) → Form
  remove : (uri : List ℕ) → Form
  commit : (json : List ℕ) → Form
  get : (when : When) (uri : List ℕ) → Form
  search : (when : When) (json : List ℕ) → Form
  estimate : (when : When) (json : List ℕ) → Form
  stamp : Form
  forget : (to : ℕ) → Form
  pin : Form
  unpin : Form
  save : Form
  merge : Form
  revive : Form
  quit : Form

-- the words that say where a line reads
abbrev pub when_words : When → List (List ℕ)
when_words Front = []
when_words (At t) = codes "at" ∷ decimal t ∷ []
when_words Pinned = codes "pinned" ∷ []

-- the words before the last one, or before the rest of the line
abbrev pub words_before : Form → List (List ℕ)
words_before (put uri json) = codes "put" ∷ uri ∷ []
words_before (remove uri) = codes "remove" ∷ []
words_before (commit json) = codes "commit" ∷ []
words_before (get when uri) = codes "get" ∷ when_words when
words_before (search when json) = codes "search" ∷ when_words when
words_before (estimate when json) = codes "estimate" ∷ when_words when
words_before stamp = []
words_before (forget to) = codes "forget" ∷ []
words_before pin = []
words_before unpin = []
words_before save = []
words_before merge = []
words_before revive = []
words_before quit = []

-- the last word, or the rest of the line
abbrev pub last_of : Form → List ℕ
last_of (put uri json) = json
last_of (remove uri) = uri
last_of (commit json) = json
last_of (get when uri) = uri
last_of (search when json) = json
last_of (estimate when json) = json
last_of stamp = codes "stamp"
last_of (forget to) = decimal to
last_of pin = codes "pin"
last_of unpin = codes "unpin"
last_of save = codes "save"
last_of merge = codes "merge"
last_of revive = codes "revive"
last_of quit = codes "quit"

-- each word with one space behind it
abbrev pub spaced_out : List (List ℕ) → List ℕ
spaced_out words = flat_map (λ word. word ++ 0x20 ∷ []) words

-- the line of a form
abbrev pub form_text : Form → List ℕ
form_text form = spaced_out (words_before form) ++ last_of form

-- one or more bytes, and no space among them
abbrev pub IsWord : List ℕ → Type 0
IsWord word = (0 < length word) × All (λ b. b ≢ 0x20) word

-- a timestamp goes up to the last one
abbrev pub IsWhen : When → Type 0
IsWhen Front = Unit {0}
IsWhen (At t) = t ≤ last_timestamp
IsWhen Pinned = Unit {0}

-- a URI is a word, whatever its bytes
abbrev pub IsForm : Form → Type 0
IsForm (put uri json) = IsWord uri
IsForm (remove uri) = IsWord uri
IsForm (commit json) = Unit {0}
IsForm (get when uri) = IsWhen when × IsWord uri
IsForm (search when json) = IsWhen when
IsForm (estimate when json) = IsWhen when
IsForm stamp = Unit {0}
IsForm (forget to) = to ≤ last_timestamp
IsForm pin = Unit {0}
IsForm unpin = Unit {0}
IsForm save = Unit {0}
IsForm merge = Unit {0}
IsForm revive = Unit {0}
IsForm quit = Unit {0}

abbrev pub Fits : List ℕ → Form → Type 0
Fits line form = IsForm form × (line ≡ form_text form)

-- the line is of some form
abbrev pub IsFormText : List ℕ → Type 0
IsFormText line = (form : Form) × Fits line form

-- the line has the form: it is UTF-8, and of all forms that it fits this one has the most words before the rest
pub record HasForm (line : List ℕ) (form : Form) : Type 0 where
  pub utf8 : IsUtf8 line
  pub fits : Fits line form
  pub most : (other : Form) → Fits line other → length (words_before other) ≤ length (words_before form)

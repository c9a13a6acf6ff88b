-- JSON text (RFC 8259): which bytes are the text of which tree.
use Rattle.std.specs.Prelude.{ℕ, zero, suc, ℤ, ◌≡◌, ◌==◌, ◌⊎◌, Bool, true, false, ◌||◌, List, [], ◌∷◌, ◌++◌, Some, IsTrue, fold, if◌then◌else◌}
use Rattle.std.specs.List.{list_all}
use Rattle.std.specs.Str.{bytes_eq, IsUtf8}
use Rattle.doc_model.specs.declared.node.Node.{Node}
use Rattle.doc_model.specs.declared.node.Node.TheVariants as node
use Rattle.json_text.specs.Numbers.{IsNumber}
use Rattle.json_text.specs.Strings.{IsString}

-- ws: space, tab, line feed, carriage return (section 2)
abbrev pub is_white : ℕ → Bool
is_white b = (b == 0x20) || (b == 0x09) || (b == 0x0A) || (b == 0x0D)

abbrev pub IsWhite : List ℕ → Type 0
IsWhite bytes = IsTrue (list_all is_white bytes)

-- a text between white space
pub record Padded (IsText : List ℕ → Type 0) (bytes : List ℕ) : Type 0 where
  pub before : List ℕ
  pub text : List ℕ
  pub behind : List ℕ
  pub white_before : IsWhite before
  pub white_behind : IsWhite behind
  pub is_text : IsText text
  pub spelled : bytes ≡ before ++ text ++ behind

-- the relation holds of each pair, and there are as many of both
abbrev pub Each : {A B : Type 0} → (A → B → Type 0) → List A → List B → Type 0
Each R [] [] = Unit {0}
Each R (a ∷ others) (b ∷ more) = R a b × Each R others more
Each R _ _ = ⊥

-- with a comma between each two
abbrev pub joined : List (List ℕ) → List ℕ
joined [] = []
joined (part ∷ []) = part
joined (part ∷ next ∷ parts) = part ++ 0x2C ∷ joined (next ∷ parts)

-- what stands between brackets: white space, or parts with a comma between each two
abbrev pub Listed : {V : Type 0} → (List ℕ → V → Type 0) → List ℕ → List V → Type 0
Listed IsPart inner [] = IsWhite inner
Listed IsPart inner (v ∷ vs) = (parts : List (List ℕ)) × Each IsPart parts (v ∷ vs) × (inner ≡ joined parts)

-- array (section 5)
abbrev pub IsArray : (List ℕ → Node → Type 0) → List ℕ → List Node → Type 0
IsArray IsText bytes items =
    (inner : List ℕ) × Listed (λ part item. Padded (λ text. IsText text item) part) inner items
    × (bytes ≡ 0x5B ∷ inner ++ 0x5D ∷ [])

abbrev pub Member : Type 0
Member = List ℕ × Node

-- member (section 4): a string, a colon and a value
abbrev pub IsMember : (List ℕ → Node → Type 0) → List ℕ → Member → Type 0
IsMember IsText bytes member =
    (name : List ℕ) × (value : List ℕ) × Padded (λ text. IsString text (Some member.0)) name ×
    Padded (λ text. IsText text member.1) value × (bytes ≡ name ++ 0x3A ∷ value)

-- object (section 4)
abbrev pub IsObject : (List ℕ → Node → Type 0) → List ℕ → List Member → Type 0
IsObject IsText bytes members = (inner : List ℕ) × Listed (IsMember IsText) inner members × (bytes ≡ 0x7B ∷ inner ++ 0x7D ∷ [])

-- a member whose name is there takes the place of that one's value; any other comes behind
abbrev pub put : List Member → Member → List Member
put [] member = member ∷ []
put (first ∷ others) member = if bytes_eq first.0 member.0 then (first.0, member.1) ∷ others else first ∷ put others member

-- of members with one name the last value counts, in the first one's place
abbrev pub last_values : List Member → List Member
last_values members = fold put [] members

-- null, true, false (section 3)
abbrev pub null_text : List ℕ
null_text = 0x6E ∷ 0x75 ∷ 0x6C ∷ 0x6C ∷ []

abbrev pub true_text : List ℕ
true_text = 0x74 ∷ 0x72 ∷ 0x75 ∷ 0x65 ∷ []

abbrev pub false_text : List ℕ
false_text = 0x66 ∷ 0x61 ∷ 0x6C ∷ 0x73 ∷ 0x65 ∷ []

-- value (section 3), where it is no array and no object
abbrev pub IsScalar : List ℕ → Node → Type 0
IsScalar bytes v =
    ((bytes ≡ null_text) × (v ≡ node.Null))
    ⊎ ((bytes ≡ true_text) × (v ≡ node.Bool true))
    ⊎ ((bytes ≡ false_text) × (v ≡ node.Bool false))
    ⊎ ((n : ℤ) × IsNumber bytes (Some n) × (v ≡ node.Num n))
    ⊎ ((text : List ℕ) × IsString bytes (Some text) × (v ≡ node.Text text))

-- value (section 3), in which at most so many arrays and objects enclose each other
unfoldable pub IsValue : ℕ → List ℕ → Node → Type 0
IsValue zero bytes v = IsScalar bytes v
IsValue (suc depth) bytes v =
    IsScalar bytes v
    ⊎ ((items : List Node) × IsArray (IsValue depth) bytes items × (v ≡ node.Items items))
    ⊎ ((members : List Member) × IsObject (IsValue depth) bytes members × (v ≡ node.Members (last_values members)))

-- JSON-text (section 2) in UTF-8 (section 8.1), of a tree within the limits on depth and numbers, without a surrogate alone
abbrev pub IsJson : List ℕ → Node → Type 0
IsJson bytes v = IsUtf8 bytes × Padded (λ text. IsValue 128 text v) bytes

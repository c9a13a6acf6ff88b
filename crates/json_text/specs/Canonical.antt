-- The canonical text of a tree: what is written.
use Rattle.std.specs.Prelude.{ℕ, ℤ, pos, negsuc, int_lt, unsigned_abs, ◌-◌, ◌&&◌, zero, suc, ◌+◌, ◌/◌, ◌%◌, ◌^◌, ◌==◌, Bool, true, nat_lt, List, [], ◌∷◌, ◌++◌, map, if◌then◌else◌}
use Rattle.std.specs.Char.{encode_utf8}
use Rattle.std.specs.Fmt.{decimal}
use Rattle.std.specs.List.{flat_map, list_all}
use Rattle.std.specs.Str.{chars, is_utf8}
use Rattle.doc_model.specs.declared.node.Node.{Node}
use Rattle.doc_model.specs.declared.node.Node.TheOpen.{Node-F}
use Rattle.doc_model.specs.declared.node.Node.TheFolds.{fold-Node}
use Rattle.json_text.specs.Grammar.{joined, Member, null_text, true_text, false_text}

-- so many places of a fraction, the highest first, up to the last that isn't 0
unfoldable pub places_text : ℕ → ℕ → List ℕ
places_text zero rest = []
places_text (suc places) rest = if rest == 0 then [] else (0x30 + rest / 10 ^ places) ∷ places_text places (rest % 10 ^ places)

-- a point and 18 places, unless all are 0
abbrev pub point_text : ℕ → List ℕ
point_text rest = if rest == 0 then [] else 0x2E ∷ places_text 18 rest

-- a count of 10^-18
abbrev pub magnitude_text : ℕ → List ℕ
magnitude_text n = decimal (n / 10 ^ 18) ++ point_text (n % 10 ^ 18)

abbrev pub units_text : ℤ → List ℕ
units_text n = (if int_lt n (pos 0) then 0x2D ∷ [] else []) ++ magnitude_text (unsigned_abs n)

-- 0 to 9 and a to f
abbrev pub low_hex : ℕ → ℕ
low_hex d = if nat_lt d 10 then 0x30 + d else 0x57 + d

-- a control character by its code, any other character as it is
abbrev pub coded : ℕ → List ℕ
coded c = if nat_lt c 0x20 then 0x5C ∷ 0x75 ∷ 0x30 ∷ 0x30 ∷ low_hex (c / 16) ∷ low_hex (c % 16) ∷ [] else encode_utf8 c

-- with a backslash and a letter, where there is one
abbrev pub escaped : ℕ → List ℕ
escaped c =
    if c == 0x22 then 0x5C ∷ 0x22 ∷ []
    else if c == 0x5C then 0x5C ∷ 0x5C ∷ []
    else if c == 0x08 then 0x5C ∷ 0x62 ∷ []
    else if c == 0x09 then 0x5C ∷ 0x74 ∷ []
    else if c == 0x0A then 0x5C ∷ 0x6E ∷ []
    else if c == 0x0C then 0x5C ∷ 0x66 ∷ []
    else if c == 0x0D then 0x5C ∷ 0x72 ∷ []
    else coded c

-- the characters of a text, each as it stands in a string
abbrev pub escaped_text : List ℕ → List ℕ
escaped_text text = flat_map escaped (chars text)

-- a text between quotation marks
abbrev pub quoted : List ℕ → List ℕ
quoted text = 0x22 ∷ escaped_text text ++ 0x22 ∷ []

-- a node, from the texts of those in it
abbrev pub node_step : Node-F (List ℕ) → List ℕ
node_step Node-F.Null = null_text
node_step (Node-F.Bool b) = if b then true_text else false_text
node_step (Node-F.Num n) = units_text n
node_step (Node-F.Text text) = quoted text
node_step (Node-F.Items items) = 0x5B ∷ joined items ++ 0x5D ∷ []
node_step (Node-F.Members members) = 0x7B ∷ joined (map (λ m. quoted m.0 ++ 0x3A ∷ m.1) members) ++ 0x7D ∷ []

abbrev pub node_text : Node → List ℕ
node_text = fold-Node (List ℕ) node_step

abbrev pub member_text : Member → List ℕ
member_text m = quoted m.0 ++ 0x3A ∷ node_text m.1

-- a comma, but before the first
abbrev pub comma : Bool → List ℕ
comma needed = if needed then 0x2C ∷ [] else []

-- the magnitude is below 10^38
abbrev pub is_decimal : ℤ → Bool
is_decimal units = int_lt (negsuc (10 ^ 38 - 1)) units && int_lt units (pos (10 ^ 38))

-- the texts and names of a tree are UTF-8, and its numbers decimals
abbrev pub values_step : Node-F Bool → Bool
values_step (Node-F.Num units) = is_decimal units
values_step (Node-F.Text text) = is_utf8 text
values_step (Node-F.Items items) = list_all (λ item. item) items
values_step (Node-F.Members members) = list_all (λ member. is_utf8 member.0 && member.1) members
values_step _ = true

abbrev pub has_values : Node → Bool
has_values = fold-Node Bool values_step

-- URIs and collection names, as the bytes of their UTF-8.
use Rattle.std.specs.Prelude.{ℕ, Bool, true, ◌&&◌, not, ◌==◌, nat_le, List, [], ◌∷◌, length}
use Rattle.std.specs.List.{list_all}
use Rattle.std.specs.Cmp.Lexicographic.{slice_cmp}
use Rattle.std.specs.Ordering.{nat_cmp, is_lt}

-- 1 to 1,024 bytes
abbrev pub is_name : List ℕ → Bool
is_name text = nat_le 1 (length text) && nat_le (length text) 1024

-- a byte of a URI: not below 0x21, and not 0x7F
abbrev pub is_uri_byte : ℕ → Bool
is_uri_byte byte = nat_le 0x21 byte && not (byte == 0x7F)

-- 1 to 1,024 such bytes
abbrev pub is_uri : List ℕ → Bool
is_uri uri = is_name uri && list_all is_uri_byte uri

-- each is less than the next, byte by byte
abbrev pub is_rising : List (List ℕ) → Bool
is_rising [] = true
is_rising (name ∷ []) = true
is_rising (name ∷ next ∷ names) = is_lt (slice_cmp nat_cmp name next) && is_rising (next ∷ names)

-- the collections of a document: at most 64, distinct and in the order of their bytes
abbrev pub is_collections : List (List ℕ) → Bool
is_collections names = nat_le (length names) 64 && list_all is_name names && is_rising names

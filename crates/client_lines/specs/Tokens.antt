-- Tokens of a reply line.
use Rattle.std.specs.Prelude.{ℕ, List, ◌∷◌, ◌++◌, codes}
use Rattle.std.specs.Fmt.{decimal}
use Rattle.std.specs.List.{flat_map}
use Rattle.client_lines.specs.declared.token.ReplyToken.{ReplyToken}
use Rattle.client_lines.specs.declared.token.ReplyToken.TheVariants as token
use Rattle.transcript.specs.Texts.{ended, file_text}

-- the text of a token
abbrev pub token_text : ReplyToken → List ℕ
token_text (token.Word word) = word.now
token_text (token.Number number) = decimal number
token_text (token.File file) = file_text file

-- a space, and the token
abbrev pub spaced_part : ReplyToken → List ℕ
spaced_part token = 0x20 ∷ token_text token

-- a space before each
abbrev pub spaced_parts : List ReplyToken → List ℕ
spaced_parts tokens = flat_map spaced_part tokens

-- a line of a keyword and its arguments
abbrev pub line_text : List ℕ → List ReplyToken → List ℕ
line_text first more = ended (first ++ spaced_parts more)

-- the line of a document's times, and its collections
abbrev pub doc_start : List ReplyToken → List ℕ → List ℕ
doc_start times collections = line_text (codes "doc") times ++ ended collections

-- the line of the count and the times of what was found, and the URIs
abbrev pub found_start : List ReplyToken → List (List ℕ) → List ℕ
found_start times uris = line_text (codes "found") times ++ flat_map ended uris

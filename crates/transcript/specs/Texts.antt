-- The texts of replies.
use Rattle.std.specs.Prelude.{ℕ, length, ◌-◌, List, [], ◌∷◌, ◌++◌, codes, if◌then◌else◌, nat_lt}
use Rattle.std.specs.Fmt.{decimal}
use Rattle.std.specs.List.{flat_map}
use Rattle.disk_model.specs.declared.file_name.FileName.{FileName}
use Rattle.disk_model.specs.declared.file_name.FileName.TheVariants.{Log, Sealed}
use Rattle.doc_model.specs.declared.indexes.Kind.{Kind}
use Rattle.doc_model.specs.declared.indexes.Kind.TheVariants as kind
use Rattle.transcript.specs.declared.reply.BadKind.{BadKind}
use Rattle.transcript.specs.declared.reply.BadKind.TheVariants as bad
use Rattle.transcript.specs.declared.reply.Reply.{Reply}
use Rattle.transcript.specs.declared.reply.Reply.TheVariants as reply
use Rattle.transcript.specs.declared.limits.TheConstants.{LONGEST_LINE}

abbrev pub ended : List ℕ → List ℕ
ended text = text ++ 0x0A ∷ []

-- a space before each
abbrev pub spaced : List (List ℕ) → List ℕ
spaced words = flat_map (λ word. 0x20 ∷ word) words

-- a line of a first word and more, with one space between each two
abbrev pub line_of : List ℕ → List (List ℕ) → List ℕ
line_of first more = ended (first ++ spaced more)

-- the timestamp that was read, and the front
abbrev pub at_of : ℕ → ℕ → List (List ℕ)
at_of at front = codes "at" ∷ decimal at ∷ codes "of" ∷ decimal front ∷ []

abbrev pub kind_text : Kind → List ℕ
kind_text kind.Decimal = codes "decimal"
kind_text kind.Text = codes "string"

abbrev pub bad_text : BadKind → List ℕ
bad_text bad.Utf8 = codes "utf8"
bad_text bad.Syntax = codes "syntax"
bad_text bad.Uri = codes "uri"
bad_text bad.Json = codes "json"
bad_text bad.Depth = codes "depth"
bad_text bad.Number = codes "number"
bad_text bad.Query = codes "query"
bad_text bad.Ops = codes "ops"

-- the logs are two journals and two root logs
abbrev pub file_text : FileName → List ℕ
file_text (Log number) =
    if nat_lt number 2 then codes "journal-" ++ decimal number else codes "root-" ++ decimal (number - 2)
file_text (Sealed number) = codes "file-" ++ decimal number

-- what is written for a reply
abbrev pub text_of : Reply → List ℕ
text_of (reply.Ok at) = line_of (codes "ok") (decimal at ∷ [])
text_of reply.Wished = line_of (codes "ok") (codes "wish" ∷ [])
text_of (reply.Doc created at front collections root) =
    line_of (codes "doc") (decimal created ∷ at_of at front) ++ ended collections ++ ended root ++ ended (codes "end")
text_of (reply.NoDoc at front) = line_of (codes "none") (at_of at front)
text_of (reply.Found at front uris) =
    line_of (codes "found") (decimal (length uris) ∷ at_of at front) ++ flat_map ended uris ++ ended (codes "end")
text_of (reply.Estimate count at front) = line_of (codes "estimate") (decimal count ∷ at_of at front)
text_of (reply.Stamp front merge) = line_of (codes "stamp") (decimal front ∷ codes "merge" ∷ decimal merge ∷ [])
text_of reply.Bye = ended (codes "bye")
text_of reply.Long = line_of (codes "bad") (codes "long" ∷ decimal LONGEST_LINE ∷ [])
text_of (reply.Bad kind place) = line_of (codes "bad") (bad_text kind ∷ decimal place ∷ [])
text_of reply.NoPin = ended (codes "nopin")
text_of reply.Deep = line_of (codes "bad") (codes "deep" ∷ decimal 32 ∷ [])
text_of reply.Many = line_of (codes "bad") (codes "many" ∷ decimal 10000 ∷ [])
text_of reply.Directory = line_of (codes "bad") (codes "directory" ∷ [])
text_of reply.Near = line_of (codes "bad") (codes "near" ∷ [])
text_of (reply.NoRange name kind) = line_of (codes "norange") (name ∷ kind_text kind ∷ [])
text_of (reply.Old asked merge) = line_of (codes "old") (decimal asked ∷ decimal merge ∷ [])
text_of (reply.New asked front) = line_of (codes "new") (decimal asked ∷ decimal front ∷ [])
text_of (reply.Back t merge) = line_of (codes "back") (decimal t ∷ decimal merge ∷ [])
text_of (reply.Ahead t front) = line_of (codes "ahead") (decimal t ∷ decimal front ∷ [])
text_of (reply.Twice uri) = line_of (codes "twice") (uri ∷ [])
text_of (reply.Conflict uri found front) = line_of (codes "conflict") (uri ∷ decimal found ∷ decimal front ∷ [])
text_of (reply.Spent front) = line_of (codes "spent") (decimal front ∷ [])
text_of reply.Down = ended (codes "down")
text_of reply.Fault = ended (codes "fault")
text_of (reply.Damaged file place) = line_of (codes "damaged") (file_text file ∷ decimal place ∷ [])
text_of reply.Memory = ended (codes "memory")
text_of reply.Later = ended (codes "later")

-- How a line is refused before it asks anything: what is wrong with it, and where. The checks go in their order; each
-- speaks of lines alone that passed those before it.
use Rattle.std.specs.Prelude.{ℕ, ◌≡◌, ◌+◌, ◌<◌, ◌^◌, Bool, true, false, List, [], length, Option, Some, None, IsTrue, codes}
use Rattle.std.specs.Option.{option_map_or}
use Rattle.std.specs.Str.{IsUtf8, IsValidUpTo}
use Rattle.cts_meaning.specs.Faults.{IsQueryFault}
use Rattle.doc_model.specs.Documents.{document_of, document_size}
use Rattle.doc_model.specs.Uri.{is_uri}
use Rattle.doc_model.specs.declared.node.Node.{Node}
use Rattle.json_text.specs.Faults.{IsRefusedText}
use Rattle.json_text.specs.Grammar.{IsJson}
use Rattle.json_text.specs.declared.bad.JsonBad.TheVariants as bad_json
use Rattle.text_prefixes.specs.Prefixes.{IsLongestPrefix}
use Rattle.transcript.specs.Forms.{Form, IsFormText, HasForm, spaced_out, words_before}
use Rattle.transcript.specs.Forms as form
use Rattle.transcript.specs.declared.command.When.{When}
use Rattle.transcript.specs.declared.command.When.TheVariants.{Front, At, Pinned}
use Rattle.transcript.specs.declared.reply.BadKind.{BadKind}
use Rattle.transcript.specs.declared.reply.BadKind.TheVariants as bad
use Rattle.transcript.specs.declared.reply.Reply.{Reply}
use Rattle.transcript.specs.declared.reply.Reply.TheVariants as reply

-- the forms that are answered so far; the others are answered `later`
abbrev pub is_answered : Form → Bool
is_answered (form.put uri json) = true
is_answered (form.remove uri) = true
is_answered (form.commit json) = false
is_answered (form.get Front uri) = true
is_answered (form.get (At t) uri) = false
is_answered (form.get Pinned uri) = false
is_answered (form.search Front json) = true
is_answered (form.search (At t) json) = false
is_answered (form.search Pinned json) = false
is_answered (form.estimate when json) = false
is_answered form.stamp = true
is_answered (form.forget to) = false
is_answered form.pin = false
is_answered form.unpin = false
is_answered form.save = false
is_answered form.merge = false
is_answered form.revive = false
is_answered form.quit = true

-- where the last word or the rest of the line begins
abbrev pub last_place : Form → ℕ
last_place f = length (spaced_out (words_before f))

-- where the URI of a form begins, and the URI
abbrev pub uri_in : Form → Option (ℕ × List ℕ)
uri_in (form.put uri json) = Some (length (codes "put "), uri)
uri_in (form.remove uri) = Some (last_place (form.remove uri), uri)
uri_in (form.commit json) = None
uri_in (form.get when uri) = Some (last_place (form.get when uri), uri)
uri_in (form.search when json) = None
uri_in (form.estimate when json) = None
uri_in form.stamp = None
uri_in (form.forget to) = None
uri_in form.pin = None
uri_in form.unpin = None
uri_in form.save = None
uri_in form.merge = None
uri_in form.revive = None
uri_in form.quit = None

-- where the JSON text of a form begins, and the text
abbrev pub json_in : Form → Option (ℕ × List ℕ)
json_in (form.put uri json) = Some (last_place (form.put uri json), json)
json_in (form.remove uri) = None
json_in (form.commit json) = Some (last_place (form.commit json), json)
json_in (form.get when uri) = None
json_in (form.search when json) = Some (last_place (form.search when json), json)
json_in (form.estimate when json) = Some (last_place (form.estimate when json), json)
json_in form.stamp = None
json_in (form.forget to) = None
json_in form.pin = None
json_in form.unpin = None
json_in form.save = None
json_in form.merge = None
json_in form.revive = None
json_in form.quit = None

-- a URI in the line keeps the rule of URIs
abbrev pub keeps_uri : Form → Bool
keeps_uri f = option_map_or (λ found. is_uri found.1) (uri_in f) true

-- a JSON text has a fault of this kind at this place
abbrev pub IsBadJson : List ℕ → BadKind → ℕ → Type 0
IsBadJson text bad.Utf8 place = IsRefusedText text (bad_json.Utf8 place)
IsBadJson text bad.Syntax place = ⊥
IsBadJson text bad.Uri place = ⊥
IsBadJson text bad.Json place = IsRefusedText text (bad_json.Syntax place)
IsBadJson text bad.Depth place = IsRefusedText text (bad_json.Depth place)
IsBadJson text bad.Number place = IsRefusedText text (bad_json.Number place)
IsBadJson text bad.Query place = ⊥
IsBadJson text bad.Ops place = ⊥

-- a line of a form that is answered, and whose URI, if it has one, keeps its rule
abbrev pub PassesUri : List ℕ → Form → Type 0
PassesUri line f = HasForm line f × IsTrue (is_answered f) × IsTrue (keeps_uri f)

-- a line is refused as this kind, with this place in it or this number of a node
pub data IsRefused (line : List ℕ) (kind : BadKind) (place : ℕ) : Type 0 where
  not_utf8 : kind ≡ bad.Utf8 → IsValidUpTo line place → IsRefused line kind place
  no_form : kind ≡ bad.Syntax → IsUtf8 line → (IsFormText line → ⊥) → IsLongestPrefix IsFormText line place
      → IsRefused line kind place
  no_uri : (f : Form) (uri : List ℕ) → kind ≡ bad.Uri → HasForm line f → IsTrue (is_answered f)
      → uri_in f ≡ Some (place, uri) → is_uri uri ≡ false → IsRefused line kind place
  no_json : (f : Form) (from : ℕ) (text : List ℕ) (at : ℕ) → PassesUri line f → json_in f ≡ Some (from, text)
      → IsBadJson text kind at → place ≡ from + at → IsRefused line kind place
  no_query : (when : When) (text : List ℕ) (root : Node) → kind ≡ bad.Query
      → PassesUri line (form.search when text) → IsJson text root → IsQueryFault root place
      → IsRefused line kind place
  too_large : (uri text : List ℕ) (root : Node) → kind ≡ bad.Ops → PassesUri line (form.put uri text)
      → IsJson text root → 2 ^ 24 < document_size (document_of uri [] root) → place ≡ 0 → IsRefused line kind place

-- the reply is such a refusal
abbrev pub Refuses : List ℕ → Reply → Type 0
Refuses line (reply.Bad kind place) = IsRefused line kind place
Refuses line (reply.Ok at) = ⊥
Refuses line reply.Wished = ⊥
Refuses line (reply.Doc created at latest collections root) = ⊥
Refuses line (reply.NoDoc at latest) = ⊥
Refuses line (reply.Found at latest uris) = ⊥
Refuses line (reply.Estimate count at latest) = ⊥
Refuses line (reply.Stamp latest merged) = ⊥
Refuses line reply.Bye = ⊥
Refuses line reply.Long = ⊥
Refuses line reply.NoPin = ⊥
Refuses line reply.Deep = ⊥
Refuses line reply.Many = ⊥
Refuses line reply.Directory = ⊥
Refuses line reply.Near = ⊥
Refuses line (reply.NoRange name kind) = ⊥
Refuses line (reply.Old asked merged) = ⊥
Refuses line (reply.New asked latest) = ⊥
Refuses line (reply.Back t merged) = ⊥
Refuses line (reply.Ahead t latest) = ⊥
Refuses line (reply.Twice uri) = ⊥
Refuses line (reply.Conflict uri found latest) = ⊥
Refuses line (reply.Spent latest) = ⊥
Refuses line reply.Down = ⊥
Refuses line reply.Fault = ⊥
Refuses line (reply.Damaged file place) = ⊥
Refuses line reply.Memory = ⊥
Refuses line reply.Later = ⊥

-- a line of a form that isn't answered so far, whatever else is wrong with it
abbrev pub ComesLater : List ℕ → Type 0
ComesLater line = (f : Form) × HasForm line f × (is_answered f ≡ false)

abbrev pub IsLater : List ℕ → Reply → Type 0
IsLater line answer = ComesLater line × (answer ≡ reply.Later)

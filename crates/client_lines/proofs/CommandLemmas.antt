-- What a line of a form asks, and how it is refused.
use Rattle.std.proofs.Common.{◌≡◌, ◌≢◌, ℕ, ◌+◌, ◌-◌, inl, inr, List, [], length, true, false, Some, None, Result, Ok, Err, refl, sym, ap, ◌∙◌, subst, length-append, codes, arith}
use Rattle.std.specs.Prelude.{IsTrue}
use Rattle.cts_meaning.specs.Faults.{IsQueryFault}
use Rattle.doc_model.specs.Uri.{is_uri}
use Rattle.doc_model.specs.declared.node.Node.{Node}
use Rattle.doc_model.specs.declared.op.Op.TheVariants.{Remove}
use Rattle.json_text.specs.Faults.{IsRefusedText}
use Rattle.json_text.specs.Grammar.{IsJson}
use Rattle.json_text.specs.declared.bad.JsonBad.{JsonBad}
use Rattle.json_text.specs.declared.bad.JsonBad.TheVariants as json_bad
use Rattle.transcript.specs.Commands.{Asks}
use Rattle.transcript.specs.Forms.{Form, HasForm, last_of, spaced_out, words_before}
use Rattle.transcript.specs.Forms as form
use Rattle.transcript.specs.Refusals.{is_answered, json_in, keeps_uri, last_place, uri_in}
use Rattle.transcript.specs.Refusals as refused
use Rattle.transcript.specs.declared.command.Command.{Command}
use Rattle.transcript.specs.declared.command.When.TheVariants.{Front}
use Rattle.transcript.specs.declared.reply.BadKind.TheVariants as bad
use Rattle.client_lines.specs.Lines.{Reads}
use Rattle.client_lines.specs.Readings.{IsBadJsonFrom, MakesCommit, MakesPut, ReadsCommand}
use Rattle.client_lines.specs.declared.refusal.LineRefusal.{LineRefusal}
use Rattle.client_lines.specs.declared.refusal.LineRefusal.TheVariants as refusal
use Rattle.client_lines.proofs.FormLemmas.{put_not_quit, remove_not_quit, search_not_quit}

-- ---- puts and removals

-- where the rest of a line begins
last_begins : (line : List ℕ) (f : Form) → HasForm line f → length line ≡ last_place f + length (last_of f)
last_begins line f has =
    ap length has.fits.1 ∙ length-append (spaced_out (words_before f)) (last_of f)

-- a line whose URI breaks its rule
pub uri_refused : (line : List ℕ) (f : Form) (place : ℕ) (uri : List ℕ) (why : LineRefusal) → HasForm line f →
    is_answered f ≡ true → uri_in f ≡ Some (place, uri) → why ≡ refusal.Bad bad.Uri place → is_uri uri ≡ false →
    ReadsCommand line (Err why)
uri_refused line f place uri why has does here is broken =
    subst (λ (w : LineRefusal). ReadsCommand line (Err w)) (sym is) (refused.no_uri f uri refl has does here broken)

-- a line whose JSON text has a fault
json_refused : (line : List ℕ) (f : Form) (why : LineRefusal) → HasForm line f → is_answered f ≡ true →
    keeps_uri f ≡ true → json_in f ≡ Some (last_place f, last_of f) → (line ≡ codes "quit" → ⊥) →
    IsBadJsonFrom (length line - length (last_of f)) (last_of f) why → ReadsCommand line (Err why)
json_refused line f (refusal.Bad kind place) has does kept here other (at, is, place_is) =
    let len = last_begins line f has in
    refused.no_json f (last_place f) (last_of f) at (has, does, kept) here is (omega (arith, place_is, len))
json_refused line f refusal.Later has does kept here other bad = absurd bad
json_refused line f refusal.Memory has does kept here other bad = other

pub put_refused : (line uri json : List ℕ) (why : LineRefusal) → HasForm line (form.put uri json) →
    IsTrue (is_uri uri) → IsBadJsonFrom (length line - length json) json why → ReadsCommand line (Err why)
put_refused line uri json why has legal bad =
    json_refused line (form.put uri json) why has refl legal refl (put_not_quit line uri json has) bad

-- a put of the tree that the text means
pub put_made : (line uri json : List ℕ) (root : Node) (result : Result Command LineRefusal) →
    HasForm line (form.put uri json) → IsTrue (is_uri uri) → IsJson json root → MakesPut uri root result →
    ReadsCommand line result
put_made line uri json root (Ok asked) has legal is makes =
    subst (Asks line) (sym makes.0) (inl (uri, json, root, has, legal, is, refl, makes.1))
put_made line uri json root (Err (refusal.Bad kind place)) has legal is makes =
    refused.too_large uri json root makes.1 (has, refl, legal) is makes.0 makes.2
put_made line uri json root (Err refusal.Later) has legal is makes = absurd makes
put_made line uri json root (Err refusal.Memory) has legal is makes = put_not_quit line uri json has

pub remove_made : (line uri : List ℕ) (result : Result Command LineRefusal) → HasForm line (form.remove uri) →
    IsTrue (is_uri uri) → MakesCommit (Remove uri None) result → ReadsCommand line result
remove_made line uri (Ok asked) has legal makes =
    subst (Asks line) (sym makes.0) (inr (uri, has, legal, refl, makes.1))
remove_made line uri (Err (refusal.Bad kind place)) has legal makes = absurd (let lt = makes.0 in omega (arith, lt))
remove_made line uri (Err refusal.Later) has legal makes = absurd makes
remove_made line uri (Err refusal.Memory) has legal makes = remove_not_quit line uri has

-- ---- searches

pub search_refused : (line json : List ℕ) (why : LineRefusal) → HasForm line (form.search Front json) →
    IsBadJsonFrom (length line - length json) json why → ReadsCommand line (Err why)
search_refused line json why has bad =
    json_refused line (form.search Front json) why has refl refl refl (search_not_quit line json has) bad

pub query_refused : (line json : List ℕ) (root : Node) (number : ℕ) → HasForm line (form.search Front json) →
    IsJson json root → IsQueryFault root number → refused.IsRefused line bad.Query number
query_refused line json root number has is first = refused.no_query Front json root refl (has, refl, refl) is first

-- the fault of a text, by its kind
pub json_fault : (text : List ℕ) (why found : JsonBad) → why ≡ found → found ≢ json_bad.Memory →
    (why ≢ json_bad.Memory → IsRefusedText text why) → IsRefusedText text found
json_fault text why found is other refused = subst (IsRefusedText text) is (refused (λ e. other (sym is ∙ e)))

-- a line that isn't empty is refused so
pub refusal_reads : (line : List ℕ) (why : LineRefusal) → line ≢ [] → ReadsCommand line (Err why) → Reads line (Err why)
refusal_reads line (refusal.Bad kind place) some reads = (some, reads)
refusal_reads line refusal.Later some reads = reads
refusal_reads line refusal.Memory some reads = (some, reads)

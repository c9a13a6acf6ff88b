-- A line is read in one way.
use Rattle.std.proofs.Common.{◌≡◌, ℕ, ◌+◌, ◌<◌, ◌^◌, List, [], length, Bool, true, false, Option, Some, None, Result, Ok, Err, refl, sym, ap, ◌∙◌, subst, arith}
use Rattle.std.proofs.Math.Nat.{le_antisymm}
use Rattle.std.proofs.lemmas.Bool.{false≢true, ltb-false}
use Rattle.std.proofs.lemmas.Option.{some_pair_parts}
use Rattle.std.proofs.lemmas.Str.{utf8_valid_len-IsUtf8, utf8_valid_len-IsValidUpTo}
use Rattle.std.specs.Option.{option_map_or}
use Rattle.std.specs.Prelude.{IsTrue, is_none, nat_lt, if◌then◌else◌}
use Rattle.std.specs.Str.{IsUtf8, IsValidUpTo}
use Rattle.cts_meaning.specs.Faults.{IsQueryFault}
use Rattle.cts_meaning.specs.Saying.{IsQuery, IsQueryText}
use Rattle.cts_meaning.proofs.OneQuery.{one_query_is_said}
use Rattle.doc_model.specs.Documents.{document_of, document_size}
use Rattle.doc_model.specs.Operations.{AreOps}
use Rattle.doc_model.specs.Uri.{is_uri}
use Rattle.doc_model.specs.declared.node.Node.{Node}
use Rattle.doc_model.specs.declared.query.Query.{Query}
use Rattle.doc_model.specs.declared.refusal.OpsRefusal.TheVariants as ops_rule
use Rattle.json_text.specs.Answers.{placed}
use Rattle.json_text.specs.Faults.{IsRefusedText}
use Rattle.json_text.specs.Grammar.{IsJson}
use Rattle.json_text.specs.declared.bad.JsonBad.{JsonBad}
use Rattle.json_text.specs.declared.bad.JsonBad.TheVariants as json_bad
use Rattle.json_text.specs.declared.fault.Fault.{Fault}
use Rattle.json_text.proofs.Fronts.{ok_same}
use Rattle.json_text.proofs.OnlyValues.{only}
use Rattle.text_prefixes.proofs.PrefixLemmas.{one_prefix_is_longest}
use Rattle.transcript.specs.Forms.{Form, HasForm, IsFormText}
use Rattle.transcript.specs.Forms as form
use Rattle.transcript.proofs.OneFormLemmas.{one_form_is_had}
use Rattle.transcript.specs.Refusals.{IsBadJson, keeps_uri, last_place, uri_in}
use Rattle.transcript.specs.declared.command.Command.TheVariants as command
use Rattle.transcript.specs.declared.command.When.TheVariants.{Front, At, Pinned}
use Rattle.transcript.specs.declared.reply.BadKind.{BadKind}
use Rattle.transcript.specs.declared.reply.BadKind.TheVariants as bad
use Rattle.client_lines.specs.declared.refusal.LineRefusal.TheVariants as refusal
use Rattle.client_lines.proofs.Ways.{Reading, puts, PutWay, SearchWay, Answered, FormWay, Way, way_of}
use Rattle.client_lines.proofs.Ways as way

-- ---- JSON texts

one_tree : (text : List ℕ) (v w : Node) → IsJson text v → IsJson text w → v ≡ w
one_tree text v w one other = ok_same v w (sym (only text v one) ∙ only text w other)

tree_or_fault : (text : List ℕ) (v : Node) (why : JsonBad) → IsJson text v → IsRefusedText text why → ⊥
tree_or_fault text v why is refused =
    let never : ◌≡◌ {A = Result Node Fault} (Ok v) (Err refused.fault) = sym (only text v is) ∙ refused.read in
    absurd cc

one_fault : (text : List ℕ) (why other : JsonBad) → IsRefusedText text why → IsRefusedText text other → why ≡ other
one_fault text why other one two =
    let both : ◌≡◌ {A = Result Node Fault} (Err one.fault) (Err two.fault) = sym one.read ∙ two.read in
    let same : one.fault ≡ two.fault = cc in
    one.at ∙ ap (λ (f : Fault). placed (length text) f) same ∙ sym two.at

-- the kind and the place of a fault in a line
abbrev told_json : JsonBad → Option (BadKind × ℕ)
told_json (json_bad.Syntax place) = Some (bad.Json, place)
told_json (json_bad.Utf8 place) = Some (bad.Utf8, place)
told_json (json_bad.Depth place) = Some (bad.Depth, place)
told_json (json_bad.Number place) = Some (bad.Number, place)
told_json json_bad.Memory = None

fault_of : (text : List ℕ) (kind : BadKind) (at : ℕ) → IsBadJson text kind at →
    (why : JsonBad) × IsRefusedText text why × (told_json why ≡ Some (kind, at))
fault_of text bad.Utf8 at is = (json_bad.Utf8 at, is, refl)
fault_of text bad.Syntax at is = absurd is
fault_of text bad.Uri at is = absurd is
fault_of text bad.Json at is = (json_bad.Syntax at, is, refl)
fault_of text bad.Depth at is = (json_bad.Depth at, is, refl)
fault_of text bad.Number at is = (json_bad.Number at, is, refl)
fault_of text bad.Query at is = absurd is
fault_of text bad.Ops at is = absurd is

bad_json_same : (text : List ℕ) (from : ℕ) (kind other : BadKind) (at place : ℕ) →
    IsBadJson text kind at → IsBadJson text other place →
    ◌≡◌ {A = Reading} (Err (refusal.Bad kind (from + at))) (Err (refusal.Bad other (from + place)))
bad_json_same text from kind other at place one two =
    let a = fault_of text kind at one in
    let b = fault_of text other place two in
    let tokens = some_pair_parts kind other at place
    (sym a.2 ∙ ap told_json (one_fault text a.0 b.0 a.1 b.1) ∙ b.2) in
    ap (λ (k : BadKind). Err (refusal.Bad k (from + at))) tokens.0
    ∙ ap (λ (n : ℕ). Err (refusal.Bad other (from + n))) tokens.1

bad_json_no_tree : (text : List ℕ) (kind : BadKind) (at : ℕ) (root : Node) → IsBadJson text kind at →
    IsJson text root → ⊥
bad_json_no_tree text kind at root one is =
    let a = fault_of text kind at one in tree_or_fault text root a.0 is a.1

-- ---- puts

size_small : (large : Bool) → IsTrue (is_none (if large then Some ops_rule.Size else None)) → large ≡ false
size_small false kept = refl
size_small true kept = absurd (false≢true kept)

too_large_no_ops : (uri : List ℕ) (root : Node) → 2 ^ 24 < document_size (document_of uri [] root) →
    AreOps (puts uri root) → ⊥
too_large_no_ops uri root large are =
    let size : ℕ = document_size (document_of uri [] root) in
    let small = ltb-false (2 ^ 24) (0 + size) (size_small (nat_lt (2 ^ 24) (0 + size)) are.rules) in
    omega (arith, small, large)

put_same : (uri json : List ℕ) (r s : Reading) → PutWay uri json r → PutWay uri json s → r ≡ s
put_same uri json r s (way.bad_json kind at one r_is) (way.bad_json other place two s_is) =
    r_is ∙ bad_json_same json (last_place (form.put uri json)) kind other at place one two ∙ sym s_is
put_same uri json r s (way.bad_json kind at one r_is) (way.too_large root is large s_is) =
    absurd (bad_json_no_tree json kind at root one is)
put_same uri json r s (way.bad_json kind at one r_is) (way.good root is are s_is) =
    absurd (bad_json_no_tree json kind at root one is)
put_same uri json r s (way.too_large root is large r_is) (way.bad_json kind at one s_is) =
    absurd (bad_json_no_tree json kind at root one is)
put_same uri json r s (way.too_large root is large r_is) (way.too_large other is' large' s_is) = r_is ∙ sym s_is
put_same uri json r s (way.too_large root is large r_is) (way.good other is' are s_is) =
    absurd (too_large_no_ops uri other
    (subst (λ (n : Node). 2 ^ 24 < document_size (document_of uri [] n)) (one_tree json root other is is') large) are)
put_same uri json r s (way.good root is are r_is) (way.bad_json kind at one s_is) =
    absurd (bad_json_no_tree json kind at root one is)
put_same uri json r s (way.good root is are r_is) (way.too_large other is' large s_is) =
    absurd (too_large_no_ops uri root
    (subst (λ (n : Node). 2 ^ 24 < document_size (document_of uri [] n)) (one_tree json other root is' is) large) are)
put_same uri json r s (way.good root is are r_is) (way.good other is' are' s_is) =
    r_is ∙ ap (λ (n : Node). Ok (command.Commit (puts uri n))) (one_tree json root other is is') ∙ sym s_is

-- ---- searches

fault_or_query : (json : List ℕ) (root : Node) (number : ℕ) (q : Query) → IsJson json root →
    IsQueryFault root number → IsQueryText json q → ⊥
fault_or_query json root number q is first (n, is', says) =
    says.faultless number (subst (λ (m : Node). IsQueryFault m number) (one_tree json root n is is') first).faulty

one_query : (json : List ℕ) (q p : Query) → IsQueryText json q → IsQueryText json p → q ≡ p
one_query json q p (n, is, says) (m, is', says') =
    one_query_is_said n q p says (subst (λ (k : Node). IsQuery k p) (one_tree json m n is' is) says')

one_first : (json : List ℕ) (root other : Node) (number place : ℕ) → IsJson json root → IsJson json other →
    IsQueryFault root number → IsQueryFault other place → number ≡ place
one_first json root other number place is is' first first' =
    let same = subst (λ (m : Node). IsQueryFault m place) (one_tree json other root is' is) first' in
    le_antisymm (first.least place same.faulty) (same.least number first.faulty)

search_same : (json : List ℕ) (r s : Reading) → SearchWay json r → SearchWay json s → r ≡ s
search_same json r s (way.bad_text kind at one r_is) (way.bad_text other place two s_is) =
    r_is ∙ bad_json_same json (last_place (form.search Front json)) kind other at place one two ∙ sym s_is
search_same json r s (way.bad_text kind at one r_is) (way.bad_query root number is first s_is) =
    absurd (bad_json_no_tree json kind at root one is)
search_same json r s (way.bad_text kind at one r_is) (way.query q (n, is, says) s_is) =
    absurd (bad_json_no_tree json kind at n one is)
search_same json r s (way.bad_query root number is first r_is) (way.bad_text kind at one s_is) =
    absurd (bad_json_no_tree json kind at root one is)
search_same json r s (way.bad_query root number is first r_is) (way.bad_query other place is' first' s_is) =
    r_is ∙ ap (λ (n : ℕ). Err (refusal.Bad bad.Query n))
    (one_first json root other number place is is' first first') ∙ sym s_is
search_same json r s (way.bad_query root number is first r_is) (way.query q text s_is) =
    absurd (fault_or_query json root number q is first text)
search_same json r s (way.query q (n, is, says) r_is) (way.bad_text kind at one s_is) =
    absurd (bad_json_no_tree json kind at n one is)
search_same json r s (way.query q text r_is) (way.bad_query root number is first s_is) =
    absurd (fault_or_query json root number q is first text)
search_same json r s (way.query q text r_is) (way.query p text' s_is) =
    r_is ∙ ap (λ (k : Query). Ok (command.Search k Front)) (one_query json q p text text') ∙ sym s_is

-- ---- forms

answered_same : (f : Form) (r s : Reading) → Answered f r → Answered f s → r ≡ s
answered_same (form.put uri json) r s one two = put_same uri json r s one two
answered_same (form.remove uri) r s one two = one ∙ sym two
answered_same (form.commit json) r s one two = absurd one
answered_same (form.get Front uri) r s one two = one ∙ sym two
answered_same (form.get (At t) uri) r s one two = absurd one
answered_same (form.get Pinned uri) r s one two = absurd one
answered_same (form.search Front json) r s one two = search_same json r s one two
answered_same (form.search (At t) json) r s one two = absurd one
answered_same (form.search Pinned json) r s one two = absurd one
answered_same (form.estimate when json) r s one two = absurd one
answered_same form.stamp r s one two = one ∙ sym two
answered_same (form.forget to) r s one two = absurd one
answered_same form.pin r s one two = absurd one
answered_same form.unpin r s one two = absurd one
answered_same form.save r s one two = absurd one
answered_same form.merge r s one two = absurd one
answered_same form.revive r s one two = absurd one
answered_same form.quit r s one two = one ∙ sym two

uri_kept : (f : Form) (place : ℕ) (uri : List ℕ) → uri_in f ≡ Some (place, uri) → is_uri uri ≡ false →
    keeps_uri f ≡ true → ⊥
uri_kept f place uri here broken kept = false≢true
    (sym broken ∙ sym (ap (λ (o : Option (ℕ × List ℕ)). option_map_or (λ found. is_uri found.1) o true) here) ∙ kept)

form_same : (f : Form) (r s : Reading) → FormWay f r → FormWay f s → r ≡ s
form_same f r s (way.comes_later later r_is) (way.comes_later later' s_is) = r_is ∙ sym s_is
form_same f r s (way.comes_later later r_is) (way.bad_uri place uri does here broken s_is) =
    absurd (false≢true (sym later ∙ does))
form_same f r s (way.comes_later later r_is) (way.answered does kept two) =
    absurd (false≢true (sym later ∙ does))
form_same f r s (way.bad_uri place uri does here broken r_is) (way.comes_later later s_is) =
    absurd (false≢true (sym later ∙ does))
form_same f r s (way.bad_uri place uri does here broken r_is) (way.bad_uri place' uri' does' here' broken' s_is) =
    r_is ∙ ap (λ (n : ℕ). Err (refusal.Bad bad.Uri n)) (some_pair_parts place place' uri uri' (sym here ∙ here')).0
    ∙ sym s_is
form_same f r s (way.bad_uri place uri does here broken r_is) (way.answered does' kept two) =
    absurd (uri_kept f place uri here broken kept)
form_same f r s (way.answered does kept one) (way.comes_later later s_is) =
    absurd (false≢true (sym later ∙ does))
form_same f r s (way.answered does kept one) (way.bad_uri place uri does' here broken s_is) =
    absurd (uri_kept f place uri here broken kept)
form_same f r s (way.answered does kept one) (way.answered does' kept' two) = answered_same f r s one two

-- ---- lines

valid_same : (line : List ℕ) (m n : ℕ) → IsValidUpTo line m → IsValidUpTo line n → m ≡ n
valid_same line m n one two = sym (utf8_valid_len-IsValidUpTo line m one) ∙ utf8_valid_len-IsValidUpTo line n two

valid_no_utf8 : (line : List ℕ) (n : ℕ) → IsValidUpTo line n → IsUtf8 line → ⊥
valid_no_utf8 line n valid utf8 =
    let all = sym (utf8_valid_len-IsValidUpTo line n valid) ∙ utf8_valid_len-IsUtf8 line utf8 in
    let short = valid.short in absurd (omega (arith, all, short))

pub way_same : (line : List ℕ) (r s : Reading) → Way line r → Way line s → r ≡ s
way_same line r s (way.not_utf8 m one r_is) (way.not_utf8 n two s_is) =
    r_is ∙ ap (λ (k : ℕ). Err (refusal.Bad bad.Utf8 k)) (valid_same line m n one two) ∙ sym s_is
way_same line r s (way.not_utf8 m one r_is) (way.no_form n utf8 none longest s_is) =
    absurd (valid_no_utf8 line m one utf8)
way_same line r s (way.not_utf8 m one r_is) (way.formed f has two) = absurd (valid_no_utf8 line m one has.utf8)
way_same line r s (way.no_form n utf8 none longest r_is) (way.not_utf8 m two s_is) =
    absurd (valid_no_utf8 line m two utf8)
way_same line r s (way.no_form m utf8 none longest r_is) (way.no_form n utf8' none' longest' s_is) =
    r_is ∙ ap (λ (k : ℕ). Err (refusal.Bad bad.Syntax k))
    (one_prefix_is_longest IsFormText line m n longest longest') ∙ sym s_is
way_same line r s (way.no_form n utf8 none longest r_is) (way.formed f has two) = absurd (none (f, has.fits))
way_same line r s (way.formed f has one) (way.not_utf8 m two s_is) = absurd (valid_no_utf8 line m two has.utf8)
way_same line r s (way.formed f has one) (way.no_form n utf8 none longest s_is) = absurd (none (f, has.fits))
way_same line r s (way.formed f has one) (way.formed g has' two) =
    form_same f r s one (subst (λ (h : Form). FormWay h s) (one_form_is_had line g f has' has) two)

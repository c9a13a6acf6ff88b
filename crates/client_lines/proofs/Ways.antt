-- The ways in which a line that isn't empty is read.
use Rattle.std.proofs.Common.{◌≡◌, ◌≢◌, ℕ, ◌+◌, ◌<◌, ◌^◌, inl, inr, List, [], ◌∷◌, true, false, Option, Some, None, Result, Ok, Err, refl, sym, ap, ◌∙◌, subst}
use Rattle.std.proofs.lemmas.Bool.{false≢true}
use Rattle.std.proofs.lemmas.Option.{some_pair_parts}
use Rattle.std.specs.Str.{IsUtf8, IsValidUpTo}
use Rattle.cts_meaning.specs.Faults.{IsQueryFault}
use Rattle.cts_meaning.specs.Saying.{IsQueryText}
use Rattle.doc_model.specs.Documents.{document_of, document_size}
use Rattle.doc_model.specs.Operations.{AreOps}
use Rattle.doc_model.specs.Uri.{is_uri}
use Rattle.doc_model.specs.declared.node.Node.{Node}
use Rattle.doc_model.specs.declared.op.Op.{Op}
use Rattle.doc_model.specs.declared.op.Op.TheVariants.{Put, Remove}
use Rattle.doc_model.specs.declared.query.Query.{Query}
use Rattle.json_text.specs.Grammar.{IsJson}
use Rattle.text_prefixes.specs.Prefixes.{IsLongestPrefix}
use Rattle.transcript.specs.Forms.{Form, HasForm, IsFormText}
use Rattle.transcript.specs.Forms as form
use Rattle.transcript.specs.Refusals.{IsBadJson, IsRefused, PassesUri, is_answered, json_in, keeps_uri, last_place, uri_in}
use Rattle.transcript.specs.Refusals as refused
use Rattle.transcript.specs.declared.command.Command.{Command}
use Rattle.transcript.specs.declared.command.Command.TheVariants as command
use Rattle.transcript.specs.declared.command.When.{When}
use Rattle.transcript.specs.declared.command.When.TheVariants.{Front, At, Pinned}
use Rattle.transcript.specs.declared.reply.BadKind.{BadKind}
use Rattle.transcript.specs.declared.reply.BadKind.TheVariants as bad
use Rattle.client_lines.specs.Readings.{ReadsCommand}
use Rattle.client_lines.specs.declared.refusal.LineRefusal.{LineRefusal}
use Rattle.client_lines.specs.declared.refusal.LineRefusal.TheVariants as refusal
use Rattle.client_lines.proofs.FormLemmas.{quit_form, stamp_form}

abbrev pub Reading : Type 0
Reading = Result Command LineRefusal

abbrev pub puts : List ℕ → Node → List Op
puts uri root = Put (document_of uri [] root) None ∷ []

-- a put whose URI keeps its rule, by its JSON text
pub data PutWay (uri json : List ℕ) (r : Reading) : Type 0 where
  bad_json : (kind : BadKind) (at : ℕ) → IsBadJson json kind at
      → r ≡ Err (refusal.Bad kind (last_place (form.put uri json) + at)) → PutWay uri json r
  too_large : (root : Node) → IsJson json root → 2 ^ 24 < document_size (document_of uri [] root)
      → r ≡ Err (refusal.Bad bad.Ops 0) → PutWay uri json r
  good : (root : Node) → IsJson json root → AreOps (puts uri root) → r ≡ Ok (command.Commit (puts uri root))
      → PutWay uri json r

-- a search, by its JSON text
pub data SearchWay (json : List ℕ) (r : Reading) : Type 0 where
  bad_text : (kind : BadKind) (at : ℕ) → IsBadJson json kind at
      → r ≡ Err (refusal.Bad kind (last_place (form.search Front json) + at)) → SearchWay json r
  bad_query : (root : Node) (number : ℕ) → IsJson json root → IsQueryFault root number
      → r ≡ Err (refusal.Bad bad.Query number) → SearchWay json r
  query : (q : Query) → IsQueryText json q → r ≡ Ok (command.Search q Front) → SearchWay json r

-- a line of a form that is answered, and whose URI keeps its rule
abbrev pub Answered : Form → Reading → Type 0
Answered (form.put uri json) r = PutWay uri json r
Answered (form.remove uri) r = r ≡ Ok (command.Commit (Remove uri None ∷ []))
Answered (form.commit json) r = ⊥
Answered (form.get Front uri) r = r ≡ Ok (command.Get uri Front)
Answered (form.get (At t) uri) r = ⊥
Answered (form.get Pinned uri) r = ⊥
Answered (form.search Front json) r = SearchWay json r
Answered (form.search (At t) json) r = ⊥
Answered (form.search Pinned json) r = ⊥
Answered (form.estimate when json) r = ⊥
Answered form.stamp r = r ≡ Ok command.Stamp
Answered (form.forget to) r = ⊥
Answered form.pin r = ⊥
Answered form.unpin r = ⊥
Answered form.save r = ⊥
Answered form.merge r = ⊥
Answered form.revive r = ⊥
Answered form.quit r = r ≡ Ok command.Quit

-- a line of a form
pub data FormWay (f : Form) (r : Reading) : Type 0 where
  comes_later : is_answered f ≡ false → r ≡ Err refusal.Later → FormWay f r
  bad_uri : (place : ℕ) (uri : List ℕ) → is_answered f ≡ true → uri_in f ≡ Some (place, uri) → is_uri uri ≡ false
      → r ≡ Err (refusal.Bad bad.Uri place) → FormWay f r
  answered : is_answered f ≡ true → keeps_uri f ≡ true → Answered f r → FormWay f r

-- a line that isn't empty
pub data Way (line : List ℕ) (r : Reading) : Type 0 where
  not_utf8 : (place : ℕ) → IsValidUpTo line place → r ≡ Err (refusal.Bad bad.Utf8 place) → Way line r
  no_form : (place : ℕ) → IsUtf8 line → (IsFormText line → ⊥) → IsLongestPrefix IsFormText line place
      → r ≡ Err (refusal.Bad bad.Syntax place) → Way line r
  formed : (f : Form) → HasForm line f → FormWay f r → Way line r

kind_is : (kind other : BadKind) (place : ℕ) → kind ≡ other →
    ◌≡◌ {A = Reading} (Err (refusal.Bad kind place)) (Err (refusal.Bad other place))
kind_is kind other place is = ap (λ (k : BadKind). Err (refusal.Bad k place)) is

none_some : {A : Type 0} (a : A) → ◌≡◌ {A = Option A} None (Some a) → ⊥
none_some a is = cc

json_way : (f : Form) (from : ℕ) (text : List ℕ) (kind : BadKind) (at place : ℕ) → is_answered f ≡ true →
    json_in f ≡ Some (from, text) → IsBadJson text kind at → place ≡ from + at →
    Answered f (Err (refusal.Bad kind place))
json_way (form.put uri json) from text kind at place does here is at_is =
    let tokens = some_pair_parts (last_place (form.put uri json)) from json text here in
    bad_json kind at (subst (λ (t : List ℕ). IsBadJson t kind at) (sym tokens.1) is)
    (ap (λ (n : ℕ). Err (refusal.Bad kind n)) (at_is ∙ ap (λ (n : ℕ). n + at) (sym tokens.0)))
json_way (form.remove uri) from text kind at place does here is at_is = absurd (none_some (from, text) here)
json_way (form.commit json) from text kind at place does here is at_is = absurd (false≢true does)
json_way (form.get Front uri) from text kind at place does here is at_is = absurd (none_some (from, text) here)
json_way (form.get (At t) uri) from text kind at place does here is at_is = absurd (none_some (from, text) here)
json_way (form.get Pinned uri) from text kind at place does here is at_is = absurd (none_some (from, text) here)
json_way (form.search Front json) from text kind at place does here is at_is =
    let tokens = some_pair_parts (last_place (form.search Front json)) from json text here in
    bad_text kind at (subst (λ (t : List ℕ). IsBadJson t kind at) (sym tokens.1) is)
    (ap (λ (n : ℕ). Err (refusal.Bad kind n)) (at_is ∙ ap (λ (n : ℕ). n + at) (sym tokens.0)))
json_way (form.search (At t) json) from text kind at place does here is at_is = absurd (false≢true does)
json_way (form.search Pinned json) from text kind at place does here is at_is = absurd (false≢true does)
json_way (form.estimate when json) from text kind at place does here is at_is = absurd (false≢true does)
json_way form.stamp from text kind at place does here is at_is = absurd (none_some (from, text) here)
json_way (form.forget to) from text kind at place does here is at_is = absurd (none_some (from, text) here)
json_way form.pin from text kind at place does here is at_is = absurd (none_some (from, text) here)
json_way form.unpin from text kind at place does here is at_is = absurd (none_some (from, text) here)
json_way form.save from text kind at place does here is at_is = absurd (none_some (from, text) here)
json_way form.merge from text kind at place does here is at_is = absurd (none_some (from, text) here)
json_way form.revive from text kind at place does here is at_is = absurd (none_some (from, text) here)
json_way form.quit from text kind at place does here is at_is = absurd (none_some (from, text) here)

query_way : (when : When) (text : List ℕ) (root : Node) (place : ℕ) → is_answered (form.search when text) ≡ true →
    IsJson text root → IsQueryFault root place →
    Answered (form.search when text) (Err (refusal.Bad bad.Query place))
query_way Front text root place does json first = bad_query root place json first refl
query_way (At t) text root place does json first = absurd (false≢true does)
query_way Pinned text root place does json first = absurd (false≢true does)

refused_way : (line : List ℕ) (kind : BadKind) (place : ℕ) → IsRefused line kind place →
    Way line (Err (refusal.Bad kind place))
refused_way line kind place (refused.not_utf8 is valid) = not_utf8 place valid (kind_is kind bad.Utf8 place is)
refused_way line kind place (refused.no_form is utf8 none longest) =
    no_form place utf8 none longest (kind_is kind bad.Syntax place is)
refused_way line kind place (refused.no_uri f uri is has does here broken) =
    formed f has (bad_uri place uri does here broken (kind_is kind bad.Uri place is))
refused_way line kind place (refused.no_json f from text at passes here is at_is) =
    formed f passes.0 (answered passes.1 passes.2 (json_way f from text kind at place passes.1 here is at_is))
refused_way line kind place (refused.no_query when text root is passes json first) =
    subst (Way line) (sym (kind_is kind bad.Query place is))
    (formed (form.search when text) passes.0
    (answered passes.1 passes.2 (query_way when text root place passes.1 json first)))
refused_way line kind place (refused.too_large uri text root is passes json large at) =
    formed (form.put uri text) passes.0 (answered passes.1 passes.2 (too_large root json large
    (kind_is kind bad.Ops place is ∙ ap (λ (n : ℕ). Err (refusal.Bad bad.Ops n)) at)))

-- each reading that isn't for want of memory has a way
pub way_of : (line : List ℕ) (r : Reading) → r ≢ Err refusal.Memory → ReadsCommand line r → Way line r
way_of line (Ok (command.Commit ops)) memory (inl (uri, json, root, has, legal, is, ops_is, are)) =
    formed (form.put uri json) has (answered refl legal (good root is (subst AreOps ops_is are)
    (ap (λ (o : List Op). Ok (command.Commit o)) ops_is)))
way_of line (Ok (command.Commit ops)) memory (inr (uri, has, legal, ops_is, are)) =
    formed (form.remove uri) has (answered refl legal (ap (λ (o : List Op). Ok (command.Commit o)) ops_is))
way_of line (Ok (command.Get uri Front)) memory asks =
    formed (form.get Front uri) asks.0 (answered refl asks.1 refl)
way_of line (Ok (command.Get uri (At t))) memory asks = absurd asks
way_of line (Ok (command.Get uri Pinned)) memory asks = absurd asks
way_of line (Ok (command.Search q Front)) memory (json, has, is) =
    formed (form.search Front json) has (answered refl refl (query q is refl))
way_of line (Ok (command.Search q (At t))) memory asks = absurd asks
way_of line (Ok (command.Search q Pinned)) memory asks = absurd asks
way_of line (Ok (command.Estimate q when)) memory asks = absurd asks
way_of line (Ok command.Stamp) memory asks = formed form.stamp (stamp_form line asks) (answered refl refl refl)
way_of line (Ok (command.Forget to)) memory asks = absurd asks
way_of line (Ok command.Pin) memory asks = absurd asks
way_of line (Ok command.Unpin) memory asks = absurd asks
way_of line (Ok command.Save) memory asks = absurd asks
way_of line (Ok command.Merge) memory asks = absurd asks
way_of line (Ok command.Revive) memory asks = absurd asks
way_of line (Ok command.Quit) memory asks = formed form.quit (quit_form line asks) (answered refl refl refl)
way_of line (Err (refusal.Bad kind place)) memory is = refused_way line kind place is
way_of line (Err refusal.Later) memory (f, has, later) = formed f has (comes_later later refl)
way_of line (Err refusal.Memory) memory reads = absurd (memory refl)

-- What is read at the front of a history.
use Rattle.std.proofs.Common.{◌≡◌, ◌≤◌, ◌<◌, ◌∙◌, ℕ, List, None, Err, inl, inr, false, nat_lt}
use Rattle.std.proofs.Common.{ap, ap₂, arith, refl, subst, sym}
use Rattle.std.proofs.lemmas.Bool.{cond-false, cond-true, le-ltb, lt-ltb}
use Rattle.std.specs.FinMap.{get}
use Rattle.doc_engine.specs.EngineState.{IsReadStateOf, ReadState}
use Rattle.doc_engine.specs.Reads.{ReturnsSearch, get_since, read_since, refused_as, search_since}
use Rattle.doc_meaning.specs.Answers.{answer_in}
use Rattle.doc_meaning.specs.History.{BaseSettings, Database, History, front, latest, merge}
use Rattle.doc_meaning.specs.Replies.{get_reply, reply_at, search_reply, unless_bad}
use Rattle.doc_meaning.specs.declared.replies.ReadReply.{ReadReply}
use Rattle.doc_meaning.specs.declared.replies.ReadReply.TheVariants as read
use Rattle.doc_meaning.specs.declared.version.Version.{Version}
use Rattle.doc_model.specs.Queries.{RefusesQuery, broken_query_rule}
use Rattle.doc_model.specs.declared.query.Query.{Query}
use Rattle.doc_model.specs.declared.refusal.QueryBad.{QueryBad}
use Rattle.doc_model.specs.declared.refusal.QueryBad.TheVariants as bad

-- the front isn't above itself
not_new : (n : ℕ) → nat_lt n n ≡ false
not_new n = le-ltb n n (omega arith)

-- from its own merge timestamp on a history is read as it replies at its front
reads_as : {T : Type 0} (h : History) (found : T) → read_since (merge h) h found ≡ reply_at h (front h) found
reads_as h found = rw (not_new (front h)) refl

pub gets_as : (h : History) (uri : List ℕ) → get_since (merge h) h uri ≡ get_reply h (front h) uri
gets_as h uri = reads_as h (get (latest h) uri)

pub searches_as : (h : History) (q : Query) → search_since (merge h) h q ≡ search_reply h (front h) q
searches_as h q = ap (unless_bad (broken_query_rule q h.base.settings.indexes)) (reads_as h (answer_in (latest h) q))

module _ (seen : ReadState) (low : ℕ) (h : History) (is : IsReadStateOf seen low h) where
  -- what is read where the merge timestamp isn't past the front
  reads_found : {T : Type 0} (found : T) → seen.merge ≤ seen.front → read_since low h found ≡ read.Found found
  reads_found found ordered = cond-false (nat_lt (front h) low) _ _
      (le-ltb (front h) low (omega (arith, ordered, is.front, is.merge)))

  -- and where it is
  reads_old : {T : Type 0} (found : T) → seen.front < seen.merge
      → read_since low h found ≡ read.Old seen.front seen.merge
  reads_old found past =
      cond-true (nat_lt (front h) low) _ _ (lt-ltb (front h) low (omega (arith, past, is.front, is.merge)))
      ∙ ap₂ (λ at to. read.Old at to) (sym is.front) (sym is.merge)

  -- a get that finds what is live, and one that is too old
  pub gets : (uri : List ℕ) → seen.merge ≤ seen.front → get_since low h uri ≡ read.Found (get seen.documents uri)
  gets uri ordered = reads_found (get (latest h) uri) ordered
      ∙ ap (λ (db : Database). read.Found (get db uri)) (sym is.documents)

  pub gets_old : (uri : List ℕ) → seen.front < seen.merge
      → get_since low h uri ≡ read.Old seen.front seen.merge
  gets_old uri past = reads_old (get (latest h) uri) past

  -- no rule is broken under the settings of the history either
  keeps_rules : (q : Query) → broken_query_rule q seen.settings.indexes ≡ None
      → broken_query_rule q h.base.settings.indexes ≡ None
  keeps_rules q none = subst (λ (s : BaseSettings). broken_query_rule q s.indexes ≡ None) is.settings none

  -- a search that is answered, and one that is too old
  pub searched : (q : Query) (uris : List (List ℕ)) → broken_query_rule q seen.settings.indexes ≡ None
      → seen.merge ≤ seen.front → uris ≡ answer_in seen.documents q → search_since low h q ≡ read.Found uris
  searched q uris none ordered answers =
      ap (λ rule. unless_bad rule (read_since low h (answer_in (latest h) q))) (keeps_rules q none)
      ∙ reads_found (answer_in (latest h) q) ordered
      ∙ ap (λ (db : Database). read.Found (answer_in db q)) (sym is.documents)
      ∙ ap read.Found (sym answers)

  pub searched_old : (q : Query) → broken_query_rule q seen.settings.indexes ≡ None
      → seen.front < seen.merge → search_since low h q ≡ read.Old seen.front seen.merge
  searched_old q none past =
      ap (λ rule. unless_bad rule (read_since low h (answer_in (latest h) q))) (keeps_rules q none)
      ∙ reads_old (answer_in (latest h) q) past

-- a query that is refused breaks the rule that is told, or there was no memory
refuses : (low : ℕ) (h : History) (q : Query) (why : QueryBad) → RefusesQuery q h.base.settings.indexes why
    → ReturnsSearch (search_since low h q) (Err (refused_as why))
refuses low h q (bad.TooDeep limit) (inl is) = absurd (cc)
refuses low h q (bad.TooMany limit) (inl is) = absurd (cc)
refuses low h q bad.BadDirectory (inl is) = absurd (cc)
refuses low h q bad.NearChild (inl is) = absurd (cc)
refuses low h q (bad.NoRange name kind) (inl is) = absurd (cc)
refuses low h q bad.Memory why = tt
refuses low h q (bad.TooDeep limit) (inr is) = rw is refl
refuses low h q (bad.TooMany limit) (inr is) = rw is refl
refuses low h q bad.BadDirectory (inr is) = rw is refl
refuses low h q bad.NearChild (inr is) = rw is refl
refuses low h q (bad.NoRange name kind) (inr is) = rw is refl

pub refuses_search : (seen : ReadState) (low : ℕ) (h : History) (q : Query) (why : QueryBad)
    → IsReadStateOf seen low h → RefusesQuery q seen.settings.indexes why
    → ReturnsSearch (search_since low h q) (Err (refused_as why))
refuses_search seen low h q why is refused =
    refuses low h q why (subst (λ (s : BaseSettings). RefusesQuery q s.indexes why) is.settings refused)

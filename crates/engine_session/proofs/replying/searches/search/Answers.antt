use Rattle.std.proofs.Common.{◌≡◌, ◌∙◌, ap, sym, inl, ℕ, List}
use Rattle.doc_meaning.specs.History.{History, front, merge}
use Rattle.doc_meaning.specs.Replies.{search_reply}
use Rattle.doc_meaning.specs.declared.replies.ReadReply.TheVariants as read
use Rattle.doc_model.specs.declared.query.Query.{Query}
use Rattle.engine_session.specs.Step.{found_at}
use Rattle.transcript.specs.Answers.{reply_to_read}
use Rattle.transcript.specs.declared.reply.Reply.TheVariants as reply
use Rattle.engine_session.proofs.replying.searches.search.Goals as goal

-- what a search at the front found is told under the front
found_is : (q : Query) (h : History) (at : ℕ) (uris : List (List ℕ)) → at ≡ front h
    → search_reply h (front h) q ≡ read.Found uris → reply.Found at at uris ≡ found_at h q
found_is q h at uris is found =
    ap (λ (n : ℕ). reply.Found n n uris) is
    ∙ ap (reply_to_read (λ (us : List (List ℕ)). reply.Found (front h) (front h) us)) (sym found)

pub returns-in-Ok : goal.returns-in-Ok
returns-in-Ok c =
    inl (λ h sees. found_is c.args.query.now h _ _ (c.stamp-front.ensures (merge h) h sees)
    (c.in-Ok.ensures.reply h sees))

-- The reply to a commit that is entered, and the history that goes on with it.
use Rattle.std.proofs.Common.{◌≡◌, ◌<◌, ◌+◌, ◌^◌, ℕ, false, nat_le, List, [], map, None, refl, sym, ap, ◌∙◌, arith}
use Rattle.std.proofs.lemmas.Bool.{lt-leb}
use Rattle.std.specs.List.{find}
use Rattle.doc_model.specs.Operations.{uri_of}
use Rattle.doc_model.specs.declared.entry.Entry.TheVariants.{Commit}
use Rattle.doc_model.specs.declared.op.Op.{Op}
use Rattle.doc_engine.specs.EngineState.{IsReadStateOf, ReadState}
use Rattle.doc_meaning.proofs.EntryLemmas.{merge_after_push}
use Rattle.doc_meaning.proofs.HistoryLemmas.{latest_with_commit}
use Rattle.doc_meaning.specs.History.{History, after_ops, front, latest, merge}
use Rattle.doc_meaning.specs.Laws.{with_commit}
use Rattle.doc_meaning.specs.Replies.{commit_reply, differs, first_twice, last_timestamp}
use Rattle.doc_meaning.specs.declared.replies.CommitReply.TheVariants.{Entered}
use Rattle.directory_meaning.proofs.EntryLemmas.{front_push}

-- a commit that names no URI twice and agrees, while there is room, is entered
pub reply_entered : (held : ReadState) (h : History) (ops : List Op) (end : ℕ) → IsReadStateOf held (merge h) h
    → first_twice [] (map uri_of ops) ≡ None → find (differs held.documents) ops ≡ None
    → end < 2 ^ 62 → held.front < last_timestamp
    → Entered (held.front + 1) ≡ commit_reply (nat_le (2 ^ 62) end) h ops
reply_entered held h ops end is once agrees room early =
    let live : find (differs (latest h)) ops ≡ None = ap (λ db. find (differs db) ops) (sym is.documents) ∙ agrees in
    let full : nat_le (2 ^ 62) end ≡ false = lt-leb (2 ^ 62) end room in
    let last : nat_le last_timestamp (front h) ≡ false =
    lt-leb last_timestamp (front h) (omega (arith, early, is.front)) in
    let at : held.front + 1 ≡ front h + 1 = ap (λ n. n + 1) is.front in
    rw (once, live, full, last, at) refl

-- the history with the commit has its operations' database
pub goes_on : (held new : ReadState) (h : History) (ops : List Op) → IsReadStateOf held (merge h) h
    → new.front ≡ held.front + 1 → new.merge ≡ held.merge → new.settings ≡ held.settings
    → new.documents ≡ after_ops (held.front + 1) ops held.documents
    → IsReadStateOf new (merge (with_commit h ops)) (with_commit h ops)
goes_on held new h ops is fronts merges settings documents = record {
  front = omega (arith, fronts, is.front, front_push h (Commit ops));
  merge = merges ∙ is.merge ∙ sym (merge_after_push h.base.merge h.entries (Commit ops));
  settings = settings ∙ is.settings;
  documents = documents ∙ ap (λ n. after_ops (n + 1) ops held.documents) is.front
      ∙ ap (after_ops (front h + 1) ops) is.documents ∙ sym (latest_with_commit h ops);
}

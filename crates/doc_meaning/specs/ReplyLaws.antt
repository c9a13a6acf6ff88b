-- Laws of the replies of histories that show the same.
use Rattle.std.specs.Prelude.{ℕ, ◌≡◌, ◌≤◌, Bool, List}
use Rattle.doc_model.specs.declared.op.Op.{Op}
use Rattle.doc_model.specs.declared.query.Query.{Query}
use Rattle.doc_meaning.specs.History.{History, front, merge, shown}
use Rattle.doc_meaning.specs.Replies.{commit_reply, estimate_reply, forget_reply, get_reply, look_reply, search_reply}

-- histories that show the same reply the same to every read, at every timestamp
abbrev pub ReadsAreAlike : Type 0
ReadsAreAlike = (h g : History) → shown h ≡ shown g →
    (look_reply h ≡ look_reply g)
    × ((at : ℕ) (q : Query) → search_reply h at q ≡ search_reply g at q)
    × ((at : ℕ) (q : Query) → estimate_reply h at q ≡ estimate_reply g at q)
    × ((at : ℕ) (uri : List ℕ) → get_reply h at uri ≡ get_reply g at uri)

-- and to every forget, and every commit if their merge timestamp isn't past their front
abbrev pub EntriesAreAlike : Type 0
EntriesAreAlike = (h g : History) (full : Bool) → shown h ≡ shown g →
    ((at : ℕ) → forget_reply full h at ≡ forget_reply full g at)
    × (merge h ≤ front h → (ops : List Op) → commit_reply full h ops ≡ commit_reply full g ops)

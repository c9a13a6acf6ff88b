-- What a line asks.
use Rattle.std.specs.Prelude.{ℕ, ◌≡◌, ◌⊎◌, List, [], ◌∷◌, None, IsTrue, codes}
use Rattle.cts_meaning.specs.Saying.{IsQueryText}
use Rattle.doc_model.specs.Documents.{document_of}
use Rattle.doc_model.specs.Operations.{AreOps}
use Rattle.doc_model.specs.Uri.{is_uri}
use Rattle.doc_model.specs.declared.node.Node.{Node}
use Rattle.doc_model.specs.declared.op.Op.{Op}
use Rattle.doc_model.specs.declared.op.Op.TheVariants.{Put, Remove}
use Rattle.json_text.specs.Grammar.{IsJson}
use Rattle.transcript.specs.Forms.{HasForm}
use Rattle.transcript.specs.Forms as form
use Rattle.transcript.specs.declared.command.Command.{Command}
use Rattle.transcript.specs.declared.command.Command.TheVariants as command
use Rattle.transcript.specs.declared.command.When.TheVariants.{Front, At, Pinned}

-- a put of a JSON text under a URI, in no collection and whatever version is live
abbrev pub AsksPut : List ℕ → List Op → Type 0
AsksPut line ops =
    (uri : List ℕ) × (json : List ℕ) × (root : Node) × HasForm line (form.put uri json) × IsTrue (is_uri uri)
    × IsJson json root × (ops ≡ Put (document_of uri [] root) None ∷ []) × AreOps ops

-- a removal of a URI, whatever version is live
abbrev pub AsksRemove : List ℕ → List Op → Type 0
AsksRemove line ops =
    (uri : List ℕ) × HasForm line (form.remove uri) × IsTrue (is_uri uri) × (ops ≡ Remove uri None ∷ []) × AreOps ops

-- what a line asks that isn't refused; lines of the other forms are answered `later` so far
abbrev pub Asks : List ℕ → Command → Type 0
Asks line (command.Commit ops) = AsksPut line ops ⊎ AsksRemove line ops
Asks line (command.Get uri Front) = HasForm line (form.get Front uri) × IsTrue (is_uri uri)
Asks line (command.Get uri (At t)) = ⊥
Asks line (command.Get uri Pinned) = ⊥
Asks line (command.Search q Front) = (json : List ℕ) × HasForm line (form.search Front json) × IsQueryText json q
Asks line (command.Search q (At t)) = ⊥
Asks line (command.Search q Pinned) = ⊥
Asks line (command.Estimate q when) = ⊥
Asks line command.Stamp = line ≡ codes "stamp"
Asks line (command.Forget to) = ⊥
Asks line command.Pin = ⊥
Asks line command.Unpin = ⊥
Asks line command.Save = ⊥
Asks line command.Merge = ⊥
Asks line command.Revive = ⊥
Asks line command.Quit = line ≡ codes "quit"

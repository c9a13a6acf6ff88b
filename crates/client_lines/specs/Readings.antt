-- Steps of reading a line.
use Rattle.std.specs.Prelude.{ℕ, ◌≡◌, ◌+◌, ◌<◌, ◌^◌, List, [], ◌∷◌, None, Result, Ok, Err}
use Rattle.doc_model.specs.Documents.{document_of}
use Rattle.doc_model.specs.Operations.{AreOps, op_size}
use Rattle.doc_model.specs.declared.node.Node.{Node}
use Rattle.doc_model.specs.declared.op.Op.{Op}
use Rattle.doc_model.specs.declared.op.Op.TheVariants.{Put}
use Rattle.transcript.specs.Commands.{Asks}
use Rattle.transcript.specs.Refusals.{ComesLater, IsBadJson, IsRefused}
use Rattle.transcript.specs.declared.command.Command.{Command}
use Rattle.transcript.specs.declared.command.Command.TheVariants.{Commit, Quit}
use Rattle.transcript.specs.declared.reply.BadKind.{BadKind}
use Rattle.transcript.specs.declared.reply.BadKind.TheVariants.{Ops}
use Rattle.client_lines.specs.declared.refusal.LineRefusal.{LineRefusal}
use Rattle.client_lines.specs.declared.refusal.LineRefusal.TheVariants as refusal

-- what a line asks, how it is refused, or `later`; want of memory is free but for one that asks to quit
abbrev pub ReadsCommand : List ℕ → Result Command LineRefusal → Type 0
ReadsCommand line (Ok asked) = Asks line asked
ReadsCommand line (Err (refusal.Bad kind place)) = IsRefused line kind place
ReadsCommand line (Err refusal.Later) = ComesLater line
ReadsCommand line (Err refusal.Memory) = Asks line Quit → ⊥

-- the fault of a JSON text that begins at this place of a line
abbrev pub IsBadJsonFrom : ℕ → List ℕ → LineRefusal → Type 0
IsBadJsonFrom from text (refusal.Bad kind place) = (at : ℕ) × IsBadJson text kind at × (place ≡ from + at)
IsBadJsonFrom from text refusal.Later = ⊥
IsBadJsonFrom from text refusal.Memory = Unit {0}

-- what is too large is told as a fault of the first node
abbrev pub IsTooLarge : ℕ → BadKind → ℕ → Type 0
IsTooLarge size kind place = (2 ^ 24 < size) × (kind ≡ Ops) × (place ≡ 0)

-- a commit of one operation
abbrev pub MakesCommit : Op → Result Command LineRefusal → Type 0
MakesCommit op (Ok asked) = (asked ≡ Commit (op ∷ [])) × AreOps (op ∷ [])
MakesCommit op (Err (refusal.Bad kind place)) = IsTooLarge (op_size op) kind place
MakesCommit op (Err refusal.Later) = ⊥
MakesCommit op (Err refusal.Memory) = Unit {0}

-- a commit of a put of a tree, in no collection and whatever version is live
abbrev pub MakesPut : List ℕ → Node → Result Command LineRefusal → Type 0
MakesPut uri root result = MakesCommit (Put (document_of uri [] root) None) result

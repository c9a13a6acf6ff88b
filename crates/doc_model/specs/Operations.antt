-- Operations, and the rules that those of one commit keep.
use Rattle.std.specs.Prelude.{ℕ, Bool, true, ◌^◌, ◌||◌, nat_lt, ◌==◌, List, length, sum_by, Option, Some, None, is_none, IsTrue, if◌then◌else◌}
use Rattle.std.specs.List.{list_all}
use Rattle.doc_model.specs.declared.op.Op.{Op}
use Rattle.doc_model.specs.declared.op.Op.TheVariants.{Put, Remove}
use Rattle.doc_model.specs.declared.refusal.OpsRefusal.{OpsRefusal}
use Rattle.doc_model.specs.declared.refusal.OpsRefusal.TheVariants as rule
use Rattle.doc_model.specs.Documents.{document_size}
use Rattle.doc_model.specs.Uri.{is_uri}

-- the URI that an operation puts or removes
abbrev pub uri_of : Op → List ℕ
uri_of (Put document expect) = document.uri
uri_of (Remove uri expect) = uri

-- the timestamp that an operation expects, if any
abbrev pub expect_of : Op → Option ℕ
expect_of (Put document expect) = expect
expect_of (Remove uri expect) = expect

-- the size of the document that an operation puts
abbrev pub op_size : Op → ℕ
op_size (Put document expect) = document_size document
op_size (Remove uri expect) = 0

-- what is removed has a URI
abbrev pub removes_uri : Op → Bool
removes_uri (Put document expect) = true
removes_uri (Remove uri expect) = is_uri uri

-- the first rule that the operations of a commit break
abbrev pub broken_ops_rule : List Op → Option OpsRefusal
broken_ops_rule ops =
    if (length ops == 0) || nat_lt 1000 (length ops) then Some (rule.Count (length ops))
    else if nat_lt (2 ^ 24) (sum_by op_size ops) then Some rule.Size
    else None

-- the operations of a commit keep every rule
pub record AreOps (ops : List Op) : Type 0 where
  pub rules : IsTrue (is_none (broken_ops_rule ops))
  pub uris : IsTrue (list_all removes_uri ops)

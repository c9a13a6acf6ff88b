-- What reading the text of a query answers.
use Rattle.std.specs.Prelude.{ℕ, ◌≡◌, List, Result, Ok, Err, ⊤}
use Rattle.doc_model.specs.declared.node.Node.{Node}
use Rattle.doc_model.specs.declared.query.Query.{Query}
use Rattle.json_text.specs.Faults.{IsRefusedText}
use Rattle.json_text.specs.Grammar.{IsJson}
use Rattle.cts_meaning.specs.Faults.{IsQueryFault}
use Rattle.cts_text.specs.declared.bad.QueryTextBad.{QueryTextBad}
use Rattle.cts_text.specs.declared.bad.QueryTextBad.TheVariants as bad

-- the bytes are no JSON text that is taken, with its fault; or a tree in which this is the first faulty node
abbrev pub RefusesQueryText : List ℕ → QueryTextBad → Type 0
RefusesQueryText bytes (bad.Json why) = IsRefusedText bytes why
RefusesQueryText bytes (bad.Shape number) = (n : Node) × IsJson bytes n × IsQueryFault n number
RefusesQueryText bytes bad.Memory = ⊤

-- the answer is this query; want of memory is free
abbrev pub TakesQuery : Query → Result Query QueryTextBad → Type 0
TakesQuery q (Ok r) = r ≡ q
TakesQuery q (Err why) = why ≡ bad.Memory

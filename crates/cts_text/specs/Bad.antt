-- The refusal of a query's text whose JSON is refused.
use Rattle.json_text.specs.declared.bad.JsonBad.{JsonBad}
use Rattle.json_text.specs.declared.bad.JsonBad.TheVariants as json
use Rattle.cts_text.specs.declared.bad.QueryTextBad.{QueryTextBad}
use Rattle.cts_text.specs.declared.bad.QueryTextBad.TheVariants as bad

-- want of memory is want of memory; a fault is handed on
abbrev pub of_json : JsonBad → QueryTextBad
of_json (json.Syntax place) = bad.Json (json.Syntax place)
of_json (json.Utf8 place) = bad.Json (json.Utf8 place)
of_json (json.Depth place) = bad.Json (json.Depth place)
of_json (json.Number place) = bad.Json (json.Number place)
of_json json.Memory = bad.Memory

-- Which settings a root can spell.
use Rattle.std.specs.Prelude.{◌^◌, nat_lt, IsTrue, length}
use Rattle.std.specs.List.{list_all}
use Rattle.doc_model.specs.declared.settings.Settings.{Settings}

-- the name of each range index is shorter than 2^32 bytes, as a root spells it
abbrev pub HasShortNames : Settings → Type 0
HasShortNames settings = IsTrue (list_all (λ i. nat_lt (length i.0) (2 ^ 32)) settings.indexes)

-- A plain history as one of the definitions.
use Rattle.doc_meaning.specs.History as meaning
use Rattle.plain_history.specs.declared.history.History.{History}

-- it begins with nothing
abbrev pub history_of : History → meaning.History
history_of h = record { base = meaning.empty_base (meaning.settings_of h.settings); entries = h.entries }

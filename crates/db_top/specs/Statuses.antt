-- How a run ends, the number that it has as an exit status, and what is printed.
use Rattle.std.specs.Prelude.{ℕ, List, ◌∷◌, ◌++◌, codes}
use Rattle.std.specs.Fmt.{decimal}
use Rattle.db_top.specs.declared.status.Status.{Status}
use Rattle.db_top.specs.declared.status.Status.TheVariants as status
use Rattle.doc_engine.specs.declared.refusal.OpenWhy.{OpenWhy}
use Rattle.doc_engine.specs.declared.refusal.OpenWhy.TheVariants as why
use Rattle.transcript.specs.Texts.{ended, file_text}
use Rattle.transcript.specs.declared.session_end.SessionEnd.{SessionEnd}
use Rattle.transcript.specs.declared.session_end.SessionEnd.TheVariants as end

-- the status that a session's end brings, where nothing else fails
abbrev pub status_of : SessionEnd → Status
status_of end.Quit = status.Done
status_of end.End = status.Done
status_of end.Long = status.Done
status_of end.ReadFault = status.Fault
status_of end.WriteFault = status.Fault
status_of end.Memory = status.Memory

-- the status that an engine's refusal brings
abbrev pub refused_as : OpenWhy → Status
refused_as why.AlreadyThere = status.AlreadyThere
refused_as why.NotThere = status.NotThere
refused_as (why.Damaged file place) = status.Damaged file place
refused_as why.Fault = status.Fault
refused_as why.Memory = status.Memory

-- where something couldn't be put back or printed, what was done ends in a fault; an earlier cause goes before
abbrev pub lost_to : Status → Status
lost_to status.Done = status.Fault
lost_to status.Usage = status.Usage
lost_to status.NotThere = status.NotThere
lost_to status.AlreadyThere = status.AlreadyThere
lost_to status.Fault = status.Fault
lost_to status.Memory = status.Memory
lost_to (status.Damaged file place) = status.Damaged file place

-- the exit status
abbrev pub code_of : Status → ℕ
code_of status.Done = 0
code_of status.Usage = 1
code_of status.NotThere = 2
code_of status.AlreadyThere = 2
code_of status.Fault = 3
code_of status.Memory = 4
code_of (status.Damaged file place) = 5

-- what is printed at the end, where `done` is the text of what was done
abbrev pub text_of : List ℕ → Status → List ℕ
text_of done status.Done = done
text_of done status.Usage = ended (codes "usage")
text_of done status.NotThere = ended (codes "not there")
text_of done status.AlreadyThere = ended (codes "already there")
text_of done status.Fault = ended (codes "fault")
text_of done status.Memory = ended (codes "memory")
text_of done (status.Damaged file place) = ended (codes "damaged " ++ file_text file ++ 0x20 ∷ decimal place)

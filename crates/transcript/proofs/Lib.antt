pub mod EntryLemmas
pub mod FormLemmas
pub mod HistoryLemmas
pub mod OneFormLemmas
pub mod OwnTurnLemmas

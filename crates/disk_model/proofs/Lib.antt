pub mod LogsLemmas
pub mod MomentsLemmas

pub mod AnswerLemmas
pub mod StagingLemmas
pub mod TwiceLemmas

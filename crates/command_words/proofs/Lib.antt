pub mod UseLemmas
pub mod RangeLemmas
pub mod ReadingLemmas
pub mod TellingLemmas

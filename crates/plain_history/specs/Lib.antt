pub mod Candidates
pub mod Histories

pub mod ChangesLemmas
pub mod CrashStateLemmas
pub mod Pieces
pub mod ResultLemmas
pub mod SeatsLemmas

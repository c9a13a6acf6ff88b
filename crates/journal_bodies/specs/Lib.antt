pub mod Roots
pub mod Entries
pub mod RootReading
pub mod EntryReading
pub mod Answers
pub mod Laws

pub mod Conditions
pub mod Filters
pub mod Found
pub mod Phrases
pub mod Scalars
pub mod Windows
pub mod Tokenized

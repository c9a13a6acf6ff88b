pub mod Dec
pub mod Uri
pub mod Tree
pub mod Documents
pub mod Operations
pub mod Queries
pub mod Kinds
pub mod Settings

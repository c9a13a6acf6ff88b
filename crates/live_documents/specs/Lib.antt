pub mod Conflicts
pub mod Staging

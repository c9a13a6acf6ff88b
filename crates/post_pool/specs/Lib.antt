pub mod Links
pub mod Pools

pub mod Kinds
pub mod Shapes
pub mod Faults
pub mod Saying
pub mod Canonical
pub mod Laws

pub mod DepthLemmas
pub mod Finding
pub mod KindsLemmas
pub mod NamesLemmas
pub mod QueryFolds

pub mod FindLemmas
pub mod OrderLemmas
pub mod GroupLemmas

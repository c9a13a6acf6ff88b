pub mod Bodies
pub mod PairStates
pub mod Sparing
pub mod Calls
pub mod Laws

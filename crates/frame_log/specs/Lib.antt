pub mod Frames
pub mod LogStates
pub mod Calls
pub mod Scanned
pub mod FramesRead
pub mod Laws

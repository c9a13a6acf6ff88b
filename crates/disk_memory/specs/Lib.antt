pub mod Changes
pub mod CrashStates
pub mod Laws
pub mod Files
pub mod Worlds
pub mod Plans

pub mod Windows
pub mod Moving
pub mod Asking
pub mod Steps
pub mod Cutting
pub mod Ending
pub mod Stepping

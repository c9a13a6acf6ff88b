pub mod Pending
pub mod Step
pub mod Attended
pub mod Ended

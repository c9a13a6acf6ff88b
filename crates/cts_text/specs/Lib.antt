pub mod Values
pub mod Judging
pub mod Saids
pub mod Bad
pub mod Answers

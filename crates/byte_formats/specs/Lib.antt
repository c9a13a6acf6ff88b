pub mod Format
pub mod Fields
pub mod Leb
pub mod Lawful
pub mod Whole
pub mod Bodies
pub mod Answers

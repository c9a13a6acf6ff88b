pub mod Two
pub mod OneOfTwo
pub mod Leading
pub mod Reviving

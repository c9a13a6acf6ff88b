pub mod Finds
pub mod Laws
pub mod LineForms
pub mod Lines
pub mod Tokens
pub mod Readings
pub mod Rows
pub mod Sending

pub mod Reading
pub mod Closing
pub mod Serving
pub mod Sessions

pub mod Postings
pub mod Reading
pub mod Sets
pub mod Numbers
pub mod Keeping

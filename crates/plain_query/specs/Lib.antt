pub mod Choices
pub mod Leaves
pub mod PropertyTexts

pub mod Bodies
pub mod Shown
pub mod Damages
pub mod Current
pub mod Laws
pub mod Directories

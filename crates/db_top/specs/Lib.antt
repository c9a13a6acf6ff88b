pub mod Statuses
pub mod Lending
pub mod Making
pub mod Serving
pub mod Checking
pub mod Runs

pub mod Checking
pub mod Tidying
pub mod Deepening
pub mod Stepping
pub mod Running

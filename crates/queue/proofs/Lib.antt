pub mod Copying
pub mod Merging
pub mod Growing
pub mod Capping
pub mod Picking

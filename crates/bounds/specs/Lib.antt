-- The bounds of a body, and what their functions ask and promise.
pub mod Reach
pub mod Block
pub mod Lists
pub mod Parts
pub mod Keeping
pub mod Ranges
pub mod Staying

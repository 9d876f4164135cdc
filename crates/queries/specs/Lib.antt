-- The laws of the query file.
pub mod Coordinates
pub mod Sizes
pub mod Opening
pub mod Writing
pub mod Layout
pub mod Held
pub mod RoundTrip
pub mod Files
pub mod Same

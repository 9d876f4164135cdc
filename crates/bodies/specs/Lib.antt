-- What the parts of the walk over two bodies promise.
pub mod Asking
pub mod OnePass
pub mod Coordinates
pub mod Check
pub mod Walk
pub mod Between
pub mod Apart
pub mod Passed
pub mod Counted
pub mod Telling

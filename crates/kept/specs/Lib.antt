-- What the library tells keeps the promises.
pub mod Kept
pub mod Fits
pub mod Log
pub mod Retold

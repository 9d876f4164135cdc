-- What is told of a query file's records, and what is left of the lent queue.
pub mod Eight
pub mod Walk
pub mod Pair
pub mod Step
pub mod Walking
pub mod Doing
pub mod Asking

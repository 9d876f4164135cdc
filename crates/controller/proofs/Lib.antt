-- What the proofs of `controller` cite.
pub mod Writing
pub mod Giving

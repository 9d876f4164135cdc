-- What the proofs of `reasons` cite.
pub mod Ruling

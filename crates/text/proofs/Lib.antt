-- Laws that the proofs cite.
pub mod Writing
pub mod Digits
pub mod Words
pub mod Rows

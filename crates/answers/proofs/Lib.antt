-- What the proofs of `answers` cite.
pub mod Refusing

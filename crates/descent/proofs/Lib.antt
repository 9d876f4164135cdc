-- What the proofs of `descent` cite.
pub mod Going
pub mod Refusing

-- What the proofs of `log` cite.
pub mod Refusing
pub mod Logging
pub mod Ids
pub mod Every

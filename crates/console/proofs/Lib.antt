-- What the proofs of `console` cite.
pub mod Reading

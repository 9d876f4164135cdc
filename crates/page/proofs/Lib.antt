-- What the proofs of `page` cite.
pub mod Paging
pub mod Exactly

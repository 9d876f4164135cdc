-- What `keep` writes of its input.
pub mod Keeping
pub mod Laws

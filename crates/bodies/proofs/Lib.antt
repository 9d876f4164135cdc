-- Laws that the proofs share.
pub mod Walking
pub mod Passing
pub mod Holder
pub mod Refusing
pub mod Settling

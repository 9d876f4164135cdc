-- What `sweep` prints, as definitions that compute, and what the writers promise.
pub mod Text
pub mod Writers
pub mod Laws
pub mod Example

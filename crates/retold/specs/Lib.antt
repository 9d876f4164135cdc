-- What `tell` prints of its input.
pub mod Page
pub mod Laws

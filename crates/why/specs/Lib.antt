-- What `why` prints of its input.
pub mod Page

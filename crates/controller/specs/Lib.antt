-- What the library's writers promise.
pub mod Copying
pub mod Given

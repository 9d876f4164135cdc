-- The answer file: what each call on one does, and the laws of its bytes.
pub mod Calls
pub mod Entries
pub mod Words
pub mod Laws

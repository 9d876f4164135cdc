-- Laws of rows 1 to 7: the order, and what a record that is not refused is known to be.
pub mod Cases
pub mod Every
pub mod Accepted
pub mod Numbered

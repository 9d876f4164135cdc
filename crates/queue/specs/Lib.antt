-- What the parts of the search that walk the lent queue promise, and the laws of lists that they share.
pub mod All
pub mod Ascending
pub mod Cleared
pub mod Level
pub mod Walk
pub mod Grid

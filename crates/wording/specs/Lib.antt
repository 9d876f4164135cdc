-- The line that `why` prints, as definitions that compute, and rows of it.
pub mod Line
pub mod Example

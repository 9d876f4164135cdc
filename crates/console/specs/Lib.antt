-- What a text says, and where an input lies.
pub mod Number
pub mod Input

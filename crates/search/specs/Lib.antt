-- What the functions of the search promise, each a step of the written search.
pub mod Levels
pub mod Whole

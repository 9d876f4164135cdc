-- F over a cell in the form that the code works it out in, and that every step of it fits.
pub mod Corners
pub mod Affine
pub mod Steps
pub mod Cube
pub mod Bounds
pub mod Grid
pub mod Finer
pub mod Asked
pub mod Miss
pub mod Spread
pub mod Points
pub mod Prepared
pub mod Slab

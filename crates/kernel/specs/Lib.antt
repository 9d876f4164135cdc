-- The kernel form of F, and that it is the form of both equations.
pub mod Kernel
pub mod Same
pub mod Lines
pub mod Ranges

-- R-8: what the named axis and side say of a box; the way down to a point; which boxes of a level are checked; the descent; the promises; and that they say enough.
pub mod Beyond
pub mod Way
pub mod Reached
pub mod Down
pub mod Promised
pub mod Sharp

-- R-5: one search never records an earlier time or a smaller count; two searches of which the second has more; the promises; and that they say enough, and no more.
pub mod Since
pub mod Both
pub mod Promised
pub mod Sharp
pub mod Walk

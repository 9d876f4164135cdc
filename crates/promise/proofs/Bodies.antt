-- Two bodies, from the ground up: the ways of touching among the fifteen queries; what is heard of a list of them; the promises; and that they say enough.
pub mod Queries
pub mod Heard
pub mod Promised
pub mod Sharp

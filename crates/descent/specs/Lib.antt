-- What is known of a box on the way down to a point.
pub mod Way

-- What is answered and told of a record of a query file and a point, and what is left of the lent queue.
pub mod Telling
pub mod Laws

-- Laws of the queries of two bodies, over the definitions of `rules`.
pub mod Members
pub mod InOrder

-- What the written search promises, over the definitions of `rules`; that it does is proved in ../proofs.
pub mod Promise
pub mod OldRules
pub mod Bodies
pub mod Why
pub mod Order
pub mod Log
pub mod More

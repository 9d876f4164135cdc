-- That the ring normaliser keeps the value.
pub mod Ring

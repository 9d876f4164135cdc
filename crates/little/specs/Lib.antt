-- Laws of numbers of 32 bits as bytes, and of bytes put into a list.
pub mod Put
pub mod Word
pub mod Signed
pub mod Stands

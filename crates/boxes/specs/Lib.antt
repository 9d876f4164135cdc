-- A stored box read back, and the laws of words: one undoes the other, and the order of words is the order of boxes.
pub mod Boxes
pub mod Words

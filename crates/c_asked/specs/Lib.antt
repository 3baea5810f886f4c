-- What is asked by numbers and bytes, and the laws of the loops that read it.
pub mod Asked
pub mod Pieces
pub mod Heads

-- What is seen of cells without a branch, and what it says of them.
pub mod Looks

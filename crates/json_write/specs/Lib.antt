-- What the writer of JSON promises, and the laws that it cites.
pub mod Stores
pub mod Texts
pub mod Lengths
pub mod Rows
pub mod Whole
pub mod Longest

-- What the writers of decimal text promise, and the laws that they cite.
pub mod Wrote
pub mod Digits
pub mod Pairs
pub mod Bits
pub mod Ints
pub mod Lines
pub mod Rows

-- What the proofs of the coded operators share, and what holds of codes.
pub mod Codes
pub mod Rows
pub mod Standing

-- What the proofs share.
pub mod Read

-- What the proofs of the operators share.
pub mod Arms
pub mod Beyond
pub mod Truths

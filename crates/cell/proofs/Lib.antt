-- Laws that the functions' proofs cite; other crates cite those of Cases and Runs.
pub mod Cases
pub mod Exactly
pub mod Finite
pub mod Fit
pub mod Number
pub mod Onward
pub mod Runs
pub mod Signs
pub mod Wrap

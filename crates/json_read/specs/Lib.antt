-- What reading promises, and the laws that it cites.
pub mod Parts
pub mod Outcome
pub mod Fit
pub mod Scan
pub mod Read

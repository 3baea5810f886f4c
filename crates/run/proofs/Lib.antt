-- What the calls promise, for the theorems.
pub mod Promised

-- What the call promises, for the theorems.
pub mod Promised

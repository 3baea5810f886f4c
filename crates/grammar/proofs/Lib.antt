pub mod Finish
pub mod Faults
pub mod Fifteen

-- What the values' code leans on, from the cells where they lie up to the run of all steps.
pub mod Lying
pub mod Done
pub mod Turns
pub mod Found
pub mod Runs
pub mod Moved

-- What a plan means in the paper's terms, and the laws that its code cites.
pub mod Operands
pub mod Stepped
pub mod Whole
pub mod Given

-- Where operands lie, and what the quick loop asks and leaves.
pub mod Operands
pub mod Cells

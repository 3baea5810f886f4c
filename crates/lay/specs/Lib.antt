-- Moved cells as bytes, and what is asked and promised of laying them down.
pub mod Lay

-- Moves by rows: two extents side by side, the law of runs and bands, and the runs and lines of each move.
pub mod Sides
pub mod Fronts
pub mod Bands
pub mod Moves

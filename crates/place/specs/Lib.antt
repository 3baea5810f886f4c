-- What the functions of this crate speak of: a coordinate's positions beside an extent's axes.
-- The cases of a place, each by its tests.
pub mod Positions

-- The face for other languages: the arrays of a bundle, as it tells of them.
pub mod Arrays
pub mod Versions

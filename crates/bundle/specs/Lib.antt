-- What reading a bundle answers, and the laws that its code cites: its first bytes and axes, one array, the whole.
pub mod Front
pub mod Axes
pub mod Read
pub mod Arrays
pub mod Whole

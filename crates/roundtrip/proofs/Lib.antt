pub mod Lying
pub mod Packing
pub mod Reading

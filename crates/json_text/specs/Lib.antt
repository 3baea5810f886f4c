-- What the readers of a JSON text's parts promise, and the laws that they cite.
pub mod Bytes
pub mod Kinds
pub mod Left
pub mod Parts
pub mod Strings
pub mod Words
pub mod Spelled
pub mod Numbers
pub mod Whole

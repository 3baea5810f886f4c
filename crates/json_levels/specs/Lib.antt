-- What the readers of brackets promise, and the laws that they cite.
pub mod Parts
pub mod Begins
pub mod Tokens

-- Parts of bytes, and positions moved: the laws that the functions cite.
pub mod Runs
pub mod Moves

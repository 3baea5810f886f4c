-- What the functions of this crate cite: extents built axis by axis, without an axis too; axes made anew from the detail;
-- two extents glued.
pub mod Built
pub mod Renewed
pub mod Joined
pub mod Starred
pub mod Names

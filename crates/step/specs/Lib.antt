-- What a step's structs mean in the paper's terms, and the laws that its parts cite.
pub mod Told
pub mod Steps
pub mod Using
pub mod Named
pub mod Agreeing

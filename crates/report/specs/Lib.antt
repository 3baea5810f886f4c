-- What the text of a listing is made of, and why it is the paper's.
pub mod Rows
pub mod Texts

-- What the listing cites: a cell that is TRUE by its bytes, a row in the buffer, the cells of a line, and a page row after row.
pub mod Rows
pub mod Lines
pub mod Lists

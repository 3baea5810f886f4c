-- Written and read back with the same type and extent, an array has the same cells; where a second `data` and a misfit stand.
pub mod Decimals
pub mod Steps
pub mod Cells
pub mod Rows
pub mod RoundTrip
pub mod Lower
pub mod Enough

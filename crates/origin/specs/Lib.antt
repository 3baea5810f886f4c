-- Where a moved cell comes from: the definitions, what the code asks, that the paper's coordinate lies in its array, and what the code
-- counts in blocks.
pub mod Origins
pub mod Found
pub mod Patches
pub mod Shifts
pub mod Asks
pub mod Lies
pub mod Blocks
pub mod Counts
pub mod Comes

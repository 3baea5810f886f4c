-- What the loops of the totals cite: the cells one after the other, the best of them, and the running sums.
pub mod Cells
pub mod Folds
pub mod Best
pub mod Filled
pub mod Sums
pub mod Whole

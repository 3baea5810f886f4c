-- What the contracts cite beside the paper's definitions.
pub mod Signs
pub mod Totals

-- What a told version says, in the paper's terms.
pub mod Told

-- The paper's tests of a form that a call names, and what they tell.
pub mod Judged

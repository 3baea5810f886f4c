-- What the calls test, and what they answer and leave.
pub mod Tests
pub mod Plans
pub mod Calls

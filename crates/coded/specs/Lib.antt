-- One number for type and operator, and what holds of the operators so coded.
pub mod Codes

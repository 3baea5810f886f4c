pub mod Put
pub mod Heads
pub mod Laid
pub mod Judging
pub mod Laying

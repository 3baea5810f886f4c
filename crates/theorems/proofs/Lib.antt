pub mod Listings
pub mod Calls

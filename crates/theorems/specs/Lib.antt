-- The engine's promises in the large: demand 3, of the definitions and of the calls; what a call leaves in each buffer; packing and
-- reading give one another back; a stretch holds the glued array's cells; promises fix answers; and 8 comes where it came, with a figure
-- that names an axis of A.
pub mod Made
pub mod Listings
pub mod Calls
pub mod Early
pub mod Left
pub mod Packed
pub mod RoundTrips
pub mod Glued
pub mod Unique
pub mod Agreed

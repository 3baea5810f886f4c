-- What the stretch's code promises and the laws that it cites: the sides and their tests, cells of two sides in turn, the plan, and the
-- part handed out.
pub mod Sides
pub mod Turns
pub mod Plans
pub mod Handed

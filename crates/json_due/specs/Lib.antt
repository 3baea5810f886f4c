-- What the keeper of what is due promises, and the laws that it cites.
pub mod Due

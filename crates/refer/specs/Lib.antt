-- What choosing an array, a reference and a walk answer, and the laws that their code cites.
pub mod Chosen
pub mod Places

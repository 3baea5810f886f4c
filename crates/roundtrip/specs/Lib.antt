-- Demand 2's last sentence, of the definitions: packing and reading give one another back. RoundTrip.antt says it; the others lead there.
pub mod Valid
pub mod Names

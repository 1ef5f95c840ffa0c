-- The manual's encoding diagrams, and the decision over the fields that settle them.
pub mod Diagram
pub mod Encodings
pub mod Deciding

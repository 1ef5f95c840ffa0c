-- What the contracts of this crate cite: the names, the lines and the answer.
pub mod Names
pub mod Lines
pub mod Answer

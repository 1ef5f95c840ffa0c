-- What is claimed of tags.
pub mod Claims

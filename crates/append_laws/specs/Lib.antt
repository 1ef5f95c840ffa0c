-- What an append keeps.
pub mod Kept

-- What the contracts of this crate cite: the parts of `from_return`.
pub mod Handling

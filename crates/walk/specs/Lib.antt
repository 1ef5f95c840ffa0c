-- What the contracts of this crate cite: the check of registers, and the walk's two ends.
pub mod Checking
pub mod IntoFunction

-- What the contracts of this crate cite.
pub mod Tabling
pub mod Taking

-- The laws of `specs/`, for the proofs of this crate and of the crates that link it.
pub mod Put
pub mod Writers
pub mod Hex
pub mod Decimal

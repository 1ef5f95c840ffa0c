-- The laws behind this crate's proofs.
pub mod Laws
pub mod Same

-- The laws behind this crate's proofs.
pub mod TagLaws

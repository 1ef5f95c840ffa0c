-- The laws behind this crate's proofs, and which refusals its checks give.
pub mod Laws
pub mod EarlyLaws

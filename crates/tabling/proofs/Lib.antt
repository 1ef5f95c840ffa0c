-- What the proofs of this crate share.
pub mod RunLaws
pub mod TakeLaws
pub mod FileLaws
pub mod LoopLaws

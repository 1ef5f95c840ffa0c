-- What the proofs of this crate share.
pub mod OnLaws
pub mod WholeLaws

-- What the proofs of this crate share.
pub mod EndedLaws
pub mod TableLaws

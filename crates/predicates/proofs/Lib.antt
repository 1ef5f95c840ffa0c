-- What the proofs above this crate share.
pub mod SavedLaws
pub mod ModeLaws

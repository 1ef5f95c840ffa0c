-- What the proofs of this crate share, and examples.
pub mod HeldLaws
pub mod Pieces
pub mod FileLaws
pub mod WriteLaws
pub mod Examples

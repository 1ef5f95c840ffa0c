-- What the proofs of this crate share.
pub mod FinderLaws
pub mod PlaceLaws

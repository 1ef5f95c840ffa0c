-- What the proofs of a turn share.
pub mod Laws

-- What the proofs of this crate share.
pub mod EntryLaws
pub mod BranchLaws

-- What the proofs of this crate share.
pub mod BehindLaws
pub mod CheckLaws
pub mod PutLaws
pub mod RecordLaws
pub mod AppendLaws

-- What the proofs about classes and conditions share.
pub mod Conds
pub mod Numbers

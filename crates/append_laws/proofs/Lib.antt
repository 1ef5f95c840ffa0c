-- The proof of what an append keeps.
pub mod KeptLaws

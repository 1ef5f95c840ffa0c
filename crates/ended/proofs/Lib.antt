-- The proof that every whole walk comes to it, and what the three calls answer.
pub mod RefusalLaws
pub mod EndedLaws
pub mod CodeLaws
pub mod NamedLaws
pub mod SavedLaws

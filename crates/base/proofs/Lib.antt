-- What proofs share: their imports of the logic, two tests at once, and the refusals that have a name.
pub mod Prelude
pub mod ChoiceLaws
pub mod NamedLaws

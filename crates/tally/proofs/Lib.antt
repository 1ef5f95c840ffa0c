-- What is shown of the counts.
pub mod CountLaws
pub mod FieldLaws
pub mod OpLaws
pub mod TallyLaws
pub mod WayLaws
pub mod CensusLaws

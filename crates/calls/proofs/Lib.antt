pub mod DestinationLaws
pub mod RecordLaws
pub mod EntryLaws
pub mod ToldLaws
pub mod EditLaws

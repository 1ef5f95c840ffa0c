-- The turns and the steps of a walk; the steps that find a word; what a record tells of its first instruction; the instruction bytes.
pub mod Turns
pub mod Saved
pub mod WordSteps
pub mod Bytes

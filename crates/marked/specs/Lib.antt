-- The table of document 01's marked runs.
pub mod Marked

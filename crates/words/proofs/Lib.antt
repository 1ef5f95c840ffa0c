-- The laws of `specs/` and of the tables.
pub mod Tables
pub mod Texts

-- What the contracts of this crate cite: a search among the inline tables, data that is skipped, a step that may be refused.
pub mod Tables

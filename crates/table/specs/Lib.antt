-- What the contracts of this crate cite: a module's table, how lent lists hold one, and the file of a table.
pub mod Table
pub mod Held
pub mod Split
pub mod File
pub mod Own

-- The decoder's definitions: the naming rules, what the manual says of a class, and the decoded instruction.
pub mod Naming
pub mod Manual
pub mod Ins

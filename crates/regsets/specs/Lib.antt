-- Register sets and flags, by operand form.
pub mod Sets

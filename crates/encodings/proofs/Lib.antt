-- The fields that settle a word's encoding, the test of every arm over its region of fields, and that no word has two classes.
pub mod Reduce
pub mod Sweep
pub mod Alike
pub mod Table

-- The definition of a step: the context, `handle_ins` block by block, a turn of the loop, the five lists; and what the code's state means.
pub mod Context
pub mod Blocks
pub mod State
pub mod Turn
pub mod Lists

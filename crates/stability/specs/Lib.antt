-- The runs of the walk, and what their theorems say.
pub mod Runs
pub mod Sums

-- How many of the 2^32 words each class has.
pub mod Counting
pub mod Census

-- The number of each class and condition, and the fields of a word that several definitions read.
pub mod Class
pub mod Cond
pub mod Fields

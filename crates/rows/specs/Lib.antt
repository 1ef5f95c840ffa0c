-- What the contracts of this crate cite: rows by address, order and zeros, maps in a slice, and the run of steps of 4.
pub mod Rows
pub mod Order
pub mod Map
pub mod Run

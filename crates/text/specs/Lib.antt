-- What the contracts of this crate cite: text written into a buffer, its writer, and the digits of a number.
pub mod Put
pub mod Writers
pub mod Hex
pub mod Decimal

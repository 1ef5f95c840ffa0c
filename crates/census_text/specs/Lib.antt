-- The census as text.
pub mod Text

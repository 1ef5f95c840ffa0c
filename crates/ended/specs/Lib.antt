-- What a whole walk comes to.
pub mod Ended

-- What an immediate and an offset are, bit by bit and by range.
pub mod ImmediateLaws
pub mod OffsetLaws

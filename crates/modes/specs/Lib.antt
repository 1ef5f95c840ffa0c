-- Operands, by the manual's addressing modes (chapter A5).
pub mod Immediate
pub mod Offset
pub mod Operands

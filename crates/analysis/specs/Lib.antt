-- The machines, each in the order of its source file, and the patterns that they share.
pub mod Pattern
pub mod IllegalCode
pub mod FunctionBranch
pub mod InlineTable
pub mod JumpTable

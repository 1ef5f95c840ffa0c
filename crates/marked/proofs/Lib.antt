-- The theorem that the definitions give the table, and runs of what it leaves out.
mod Computing
pub mod MarkedRuns
pub mod MoreRuns

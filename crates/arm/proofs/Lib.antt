-- The decoder beside the manual, and the number of a condition.
pub mod ConditionLaws
pub mod ManualLaws
pub mod StackLaws

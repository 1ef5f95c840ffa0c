-- The theorem about runs, from the code's bytes up.
pub mod CodeLaws
pub mod PairLaws
pub mod AlikeLaws
pub mod BlindLaws
pub mod TurnLaws
pub mod SliceLaws
pub mod LongerLaws
pub mod LeadLaws
pub mod StepLaws
pub mod ReachLaws
pub mod StableLaws
pub mod SumLaws

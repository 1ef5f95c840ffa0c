-- The laws of a turn: what the checks have shown; where a step goes on or ends; what it keeps; when a walk ends.
pub mod CheckLaws
pub mod BlockLaws
pub mod ClassLaws
pub mod TargetLaws
pub mod MoveLaws
pub mod WordLaws
pub mod PoolLaws
pub mod SoundLaws
pub mod TurnLaws
pub mod BytesLaws
pub mod KeptLaws
pub mod EndingLaws
pub mod SavedLaws
pub mod StepLaws

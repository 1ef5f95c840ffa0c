-- The theorems about tags.
pub mod ExactLaws
pub mod WithinLaws
pub mod SameLaws
pub mod MostLaws

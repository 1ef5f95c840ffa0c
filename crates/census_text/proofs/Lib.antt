-- What is shown of the text.
pub mod TextLaws

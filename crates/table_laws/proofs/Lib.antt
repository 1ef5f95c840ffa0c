-- The theorems about tables and their files.
pub mod BytesLaws
pub mod FunctionLaws
pub mod HeldWords
pub mod FilesLaws
pub mod BehindLaws

-- What the theorems about tables and their files say.
pub mod Files

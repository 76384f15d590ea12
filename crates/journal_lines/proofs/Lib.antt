pub mod Pieces
pub mod Reading
pub mod Spelling
pub mod Text

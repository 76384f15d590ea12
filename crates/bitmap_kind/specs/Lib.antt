pub mod Stored
pub mod StoredLaws
pub mod Picture
pub mod BitmapView
pub mod Pieces
pub mod Places

pub mod Reading
pub mod RowsLeft
pub mod FullPicture
pub mod PixelBytes
pub mod Scale

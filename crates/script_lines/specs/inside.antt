pub mod LineView
pub mod Pieces

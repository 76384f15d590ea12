pub mod Pieces
pub mod Pixels
pub mod Wholes
pub mod SizeLemmas
pub mod Lines
pub mod Mirrors
pub mod MoveSteps
pub mod KeptSizes

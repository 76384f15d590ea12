pub mod Blocks
pub mod Columns
pub mod FirstBroken
pub mod Heads
pub mod Lowering
pub mod RowSteps
pub mod TablePixels

pub use Rattle.bitmap_kind.specs.declared.bitmaps.Transform
pub use Rattle.bitmap_kind.specs.Picture
pub mod Sizes
pub mod Boxes
pub mod Axis
pub mod Steps
pub mod Moved
pub mod Worked

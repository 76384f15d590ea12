pub use Rattle.bitmap_kind.specs.declared.bitmaps.Rule
pub mod Sample
pub mod Sampled
pub mod SampleLaws
pub mod Lanes
pub mod SumsView
pub mod BoxValue
pub mod BoxView

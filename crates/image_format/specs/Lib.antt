pub use Rattle.bitmap_kind.specs.Picture
pub use Rattle.bitmap_kind.specs.Stored
pub use Rattle.cache_key.specs.Key
pub use Rattle.cache_key.specs.KeyBytes
pub use Rattle.ppm_read.specs.Header as PpmHeader
pub use Rattle.ppm_read.specs.Full as PpmFull
pub use Rattle.bmp_read.specs.Header as BmpHeader
pub use Rattle.bmp_read.specs.Full as BmpFull
pub use Rattle.sampling.specs.Sample
pub use Rattle.sampling.specs.Sampled
pub use Rattle.transforms.specs.Sizes
pub use Rattle.transforms.specs.Moved
pub mod Pictures
pub mod Content
pub mod RawForm
pub mod Answers
pub mod Worked
pub mod inside

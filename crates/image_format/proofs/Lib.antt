pub mod Filling
pub mod SampledRows
pub mod Planned
pub mod RawTexts

pub mod Cache
pub mod Evicting
pub mod CacheView
pub mod Worked

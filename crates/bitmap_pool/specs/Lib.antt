pub mod Pool
pub mod Evicting
pub mod Limits
pub mod Numbered
pub mod Worked
pub mod PoolView
pub mod inside
